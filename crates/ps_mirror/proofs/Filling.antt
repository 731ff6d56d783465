-- Line by line.
use Rattle.std.proofs.Common.{◌≡◌, ◌≢◌, ℕ, ◌<◌, ◌≤◌, true, false, List, [], ◌∷◌, ◌++◌, length, Option, Some, None, refl, sym, ap, ◌∙◌, arith}
use Rattle.std.specs.Io.KnownBytes.{prepend_known}
use Rattle.ps_wire.proofs.Gaining.{gave_more}
use Rattle.std.proofs.lemmas.Bool.Decides.{nat_tests}
use Rattle.ps_types.specs.Lines.{after_line, first_line, lines_of}
use Rattle.ps_types.proofs.Lines.{lines_of_first}
use Rattle.ps_wire.specs.Reading.{Gave, IsNext}
use Rattle.ps_wire.specs.declared.lines.NextLine.TheVariants.{Line as Whole, TooLong, End}
use Rattle.ps_mirror.specs.Copy.{news_in}
use Rattle.ps_mirror.specs.Filled.{HasTaken, IsOnTheWay, IsReadWhole, all_taken, is_short}
use Rattle.ps_mirror.specs.Mirrored.{Mirrored, mirror_after}

short-taken : (line : List ℕ) (lines : List (List ℕ)) (m : Mirrored) → is_short line ≡ true → all_taken (line ∷ lines) m ≡ all_taken lines (mirror_after (news_in m.node m.who line) m)
short-taken line lines m e = rw e refl

long-taken : (line : List ℕ) (lines : List (List ℕ)) (m : Mirrored) → is_short line ≡ false → all_taken (line ∷ lines) m ≡ all_taken lines m
long-taken line lines m e = rw e refl

not-empty : (bytes : List ℕ) → 262144 < length (first_line bytes) → bytes ≢ []
not-empty [] over none = (let no : 0 < 0 = omega (arith, over) in omega (arith, no))
not-empty (b ∷ bytes) over none = cc none

pub line-on : (before after : Option (List ℕ)) (line : List ℕ) (m now : Mirrored) → IsNext (Whole line) before after → now ≡ mirror_after (news_in m.node m.who line) m → IsOnTheWay before m after now
line-on None after line m now next is = tt
line-on (Some bytes) None line m now next is = absurd next
line-on (Some bytes) (Some rest) line m now next is =
    let some = next.0 in
    let small : is_short line ≡ true = (let few : length line ≤ 262144 = next.3 in grind (arith, nat_tests, few)) in
    let split = ap (λ (lines : List (List ℕ)). all_taken lines m) (lines_of_first bytes some ∙ ap (λ (l : List ℕ). l ∷ lines_of (after_line bytes)) (sym next.1)) in
    ap (λ (n : Mirrored). all_taken (lines_of rest) n) is ∙ ap (λ (r : List ℕ). all_taken (lines_of r) (mirror_after (news_in m.node m.who line) m)) next.2
    ∙ sym (short-taken line (lines_of (after_line bytes)) m small) ∙ sym split

pub long-on : (before after : Option (List ℕ)) (m : Mirrored) → IsNext TooLong before after → IsOnTheWay before m after m
long-on None after m next = tt
long-on (Some bytes) None m next = absurd next
long-on (Some bytes) (Some rest) m next =
    let over = next.0 in
    let large : is_short (first_line bytes) ≡ false = grind (arith, nat_tests, over) in
    ap (λ (r : List ℕ). all_taken (lines_of r) m) next.1 ∙ sym (long-taken (first_line bytes) (lines_of (after_line bytes)) m large)
    ∙ sym (ap (λ (lines : List (List ℕ)). all_taken lines m) (lines_of_first bytes (not-empty bytes over)))

pub end-taken : (before after : Option (List ℕ)) (m : Mirrored) → IsNext End before after → HasTaken before m m
end-taken None after m next = tt
end-taken (Some bytes) None m next = absurd next
end-taken (Some bytes) (Some rest) m next = sym (ap (λ (b : List ℕ). all_taken (lines_of b) m) next.0)

pub begun : (before : Option (List ℕ)) (m : Mirrored) → IsOnTheWay before m before m
begun None m = tt
begun (Some bytes) m = refl

pub on-and-on : (before mid after : Option (List ℕ)) (m n o : Mirrored) → IsOnTheWay before m mid n → IsOnTheWay mid n after o → IsOnTheWay before m after o
on-and-on None mid after m n o one two = tt
on-and-on (Some bytes) None after m n o one two = absurd one
on-and-on (Some bytes) (Some rest) None m n o one two = absurd two
on-and-on (Some bytes) (Some rest) (Some left) m n o one two = two ∙ one

pub at-last : (before mid : Option (List ℕ)) (m n o : Mirrored) → IsOnTheWay before m mid n → HasTaken mid n o → HasTaken before m o
at-last None mid m n o one two = tt
at-last (Some bytes) None m n o one two = absurd one
at-last (Some bytes) (Some rest) m n o one two = two ∙ one

-- ---- the end of the source

pub end-whole : (before held : List ℕ) (left : Option (List ℕ)) → IsNext End (Some before) (prepend_known held left) → held ≡ [] → left ≡ Some []
end-whole before held None next none = absurd next
end-whole before held (Some ys) next none = ap (λ (xs : List ℕ). Some xs) (sym (ap (λ (h : List ℕ). h ++ ys) none) ∙ next.1)

pub ended-whole : (before : Option (List ℕ)) (held : List ℕ) (left : Option (List ℕ)) → IsNext End before (prepend_known held left) → held ≡ [] → IsReadWhole before left
ended-whole None held left next none = tt
ended-whole (Some bytes) held left next none = end-whole bytes held left next none

pub whole-at-last : (before mid : Option (List ℕ)) (m n : Mirrored) (left : Option (List ℕ)) → IsOnTheWay before m mid n → IsReadWhole mid left → IsReadWhole before left
whole-at-last None mid m n left one two = tt
whole-at-last (Some bytes) None m n left one two = absurd one
whole-at-last (Some bytes) (Some rest) m n left one two = two

-- ---- what a source gave

pub gave-both : (one two three : Option (List ℕ)) (n m k : ℕ) → Gave one two n m → Gave two three m k → Gave one three n k
gave-both one two three n m k x y = gave_more one two three n m k y.0 x y.1 y.2
