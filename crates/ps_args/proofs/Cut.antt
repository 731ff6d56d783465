-- Words that are cut into streams.
use Rattle.std.proofs.Common.{◌≡◌, ℕ, ◌≤◌, ◌-◌, List, [], ◌∷◌, ◌++◌, length, get_or, take, drop, Option, Some, None, refl, sym, ap, ◌∙◌, append_assoc, arith}
use Rattle.std.proofs.lemmas.List.{take_all}
use Rattle.ps_args.specs.Words.{host_of, stream_of, streams_of, with_first}
use Rattle.ps_args.specs.declared.command.Stream.{Stream}

-- the streams that were read, and then those of the words that are left
abbrev pub joined : List Stream → Option (List Stream) → Option (List Stream)
joined read None = None
joined read (Some streams) = Some (read ++ streams)

all-taken : {T : Type 0} (xs : List T) (n : ℕ) → n ≡ length xs → take n xs ≡ xs
all-taken xs n e = ap (λ (k : ℕ). take k xs) e ∙ take_all (length xs) xs (omega arith)

one-joined : (read new : List Stream) (s : Stream) (m : Option (List Stream)) → new ≡ read ++ s ∷ [] → joined read (with_first (Some s) m) ≡ joined new m
one-joined read new s None is = refl
one-joined read new s (Some more) is = ap (λ (l : List Stream). Some l) (sym (append_assoc read (s ∷ []) more) ∙ ap (λ (l : List Stream). l ++ more) (sym is))

-- three words more
pub further : (words rest : List (List ℕ)) (read new : List Stream) (a b d : List ℕ) (s : Stream) → 3 ≤ length rest → a ≡ get_or rest 0 a → b ≡ get_or rest 1 b → d ≡ get_or rest 2 d
    → streams_of words ≡ joined read (streams_of rest) → stream_of (host_of a) b d ≡ Some s → new ≡ read ++ s ∷ []
    → streams_of words ≡ joined new (streams_of (take (length rest - 3) (drop 3 rest)))
further words [] read new a b d s least ia ib id so is pushed = absurd (omega (arith, least))
further words (x ∷ []) read new a b d s least ia ib id so is pushed = absurd (omega (arith, least))
further words (x ∷ y ∷ []) read new a b d s least ia ib id so is pushed = absurd (omega (arith, least))
further words (x ∷ y ∷ z ∷ more) read new a b d s least ia ib id so is pushed =
    let all : take (length (x ∷ y ∷ z ∷ more) - 3) more ≡ more = all-taken more (length (x ∷ y ∷ z ∷ more) - 3) (omega arith) in
    let first : stream_of (host_of x) y z ≡ Some s = (λ i. stream_of (host_of (sym ia i)) (sym ib i) (sym id i)) ∙ is in
    so ∙ ap (λ (o : Option Stream). joined read (with_first o (streams_of more))) first ∙ one-joined read new s (streams_of more) pushed
    ∙ ap (λ (l : List (List ℕ)). joined new (streams_of l)) (sym all)
