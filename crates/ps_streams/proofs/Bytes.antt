-- What was written of words.
use Rattle.std.proofs.Common.{◌≡◌, ℕ, List, [], ◌∷◌, ◌++◌, Option, Some, None, refl, ap, sym, ◌∙◌, subst}
use Rattle.std.specs.Io.KnownBytes.{Appends}
use Rattle.ps_wire.specs.Writing.{AppendsFront}
use Rattle.ps_world.proofs.Lists.{assoc, nil-right}
use Rattle.ps_trace.specs.Words.{Word, bytes_of, text_of}
use Rattle.ps_trace.proofs.Wording.{bytes-append}
use Rattle.ps_streams.specs.Speaking.{Written}
use Rattle.ps_wire.proofs.Written.{appends_more}

pub written-none : (b : Option (List ℕ)) → Written b b [] []
written-none None = record { front = []; behind = []; split = refl; appends = tt }
written-none (Some x) = record { front = []; behind = []; split = refl; appends = sym (nil-right x) }

pub written-whole : (before now : Option (List ℕ)) (w : Word) (text : List ℕ) → text_of w ≡ text → Appends before now (text ++ 10 ∷ []) → Written before now (w ∷ []) []
written-whole before now w text e h = record {
  front = [];
  behind = [];
  split = refl;
  appends = subst (Appends before now) (ap (λ l. l ++ 10 ∷ []) (sym e) ∙ (sym (nil-right (text_of w ++ 10 ∷ [])) ∙ sym (nil-right ((text_of w ++ 10 ∷ []) ++ [])))) h;
}

pub written-part : (before now : Option (List ℕ)) (w : Word) (text : List ℕ) → text_of w ≡ text → AppendsFront before now (text ++ 10 ∷ []) → Written before now [] (w ∷ [])
written-part before now w text e h = record {
  front = h.front;
  behind = h.behind;
  split = nil-right (text_of w ++ 10 ∷ []) ∙ (ap (λ l. l ++ 10 ∷ []) e ∙ h.split);
  appends = h.appends;
}

front-none : (xs ys : List ℕ) → xs ++ ys ≡ [] → xs ≡ []
front-none [] ys e = refl
front-none (x ∷ xs) ys e = absurd (cc e)

-- one part after another
pub written-more : (first second third : Option (List ℕ)) (one two last : List Word) → Written first second one [] → Written second third two last → Written first third (one ++ two) last
written-more first second third one two last a b =
    let nothing : a.front ≡ [] = front-none a.front a.behind (sym a.split) in
    record {
      front = b.front;
      behind = b.behind;
      split = b.split;
      appends = subst (Appends first third) (sym (assoc (bytes_of one) (bytes_of two) b.front) ∙ ap (λ l. l ++ b.front) (sym (bytes-append one two)))
          (appends_more first second third (bytes_of one) (bytes_of two ++ b.front) (subst (Appends first second) (ap (λ l. bytes_of one ++ l) nothing ∙ nil-right (bytes_of one)) a.appends)
          b.appends);
    }
