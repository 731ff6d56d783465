-- Lines that come one after another.
use Rattle.std.proofs.Common.{◌≡◌, ℕ, ◌≤◌, List, [], ◌∷◌, ◌++◌, Option, Some, None, length, refl, ap, sym, ◌∙◌, subst, arith, append_assoc}
use Rattle.std.specs.Io.KnownBytes.{prepend_known}
use Rattle.ps_types.specs.Lines.{first_line, lines_of}
use Rattle.ps_types.specs.declared.entry.Arrival.{Arrival}
use Rattle.ps_types.specs.declared.entry.Arrival.TheVariants.{Line, TooLong}
use Rattle.ps_types.proofs.Lines.{lines_of_first}
use Rattle.ps_wire.specs.AtEnd.{nothing_of}
use Rattle.ps_wire.specs.Reading.{IsNext}
use Rattle.ps_wire.specs.declared.lines.NextLine.TheVariants as next
use Rattle.ps_follow_run.specs.Following.{AreLinesOf, CameOf}

lines-more : (xs ys : List Arrival) (ls ms : List (List ℕ)) → AreLinesOf xs ls → AreLinesOf ys ms → AreLinesOf (xs ++ ys) (ls ++ ms)
lines-more [] ys [] ms a b = b
lines-more [] ys (l ∷ ls) ms a b = absurd a
lines-more (x ∷ xs) ys [] ms a b = absurd a
lines-more (x ∷ xs) ys (l ∷ ls) ms a b = (a.0, lines-more xs ys ls ms a.1 b)

pub came-none : (b : Option (List ℕ)) → CameOf b b []
came-none None = tt
came-none (Some all) = ([], refl, tt)

pub came-more : (all mid left : Option (List ℕ)) (one two : List Arrival) → CameOf all mid one → CameOf mid left two → CameOf all left (one ++ two)
came-more None mid left one two a b = tt
came-more (Some all) None left one two a b = absurd a
came-more (Some all) (Some mid) None one two a b = absurd b
came-more (Some all) (Some mid) (Some left) one two a b = (a.0 ++ b.0, a.1 ∙ (ap (λ l. a.0 ++ l) b.1 ∙ sym (append_assoc a.0 b.0 (lines_of left))), lines-more one two a.0 b.0 a.2 b.2)

pub came-line : (bytes : List ℕ) (before left : Option (List ℕ)) → IsNext (next.Line bytes) before left → CameOf before left (Line bytes None ∷ [])
came-line bytes None left is = tt
came-line bytes (Some all) None is = absurd is
came-line bytes (Some all) (Some left) is = (
  first_line all ∷ [],
  lines_of_first all is.0 ∙ ap (λ l. first_line all ∷ lines_of l) (sym is.2),
  ((is.1, (refl, subst (λ (l : List ℕ). length l ≤ 262144) is.1 is.3)), tt),
)

pub came-long : (before left : Option (List ℕ)) → IsNext next.TooLong before left → CameOf before left (TooLong ∷ [])
came-long None left is = tt
came-long (Some all) None is = absurd is
came-long (Some []) (Some left) is = absurd (omega (arith, is.0))
came-long (Some (b ∷ bytes)) (Some left) is = (first_line (b ∷ bytes) ∷ [], lines_of_first (b ∷ bytes) (λ e. cc e) ∙ ap (λ l. first_line (b ∷ bytes) ∷ lines_of l) (sym is.1), (is.0, tt))

-- no line is left, and no byte
pub came-end : (before left : Option (List ℕ)) → IsNext next.End before left → CameOf before left []
came-end None left is = tt
came-end (Some all) None is = absurd is
came-end (Some all) (Some left) is = ([], ap lines_of (is.0 ∙ sym is.1), tt)

-- where nothing is held and nothing left, no byte is to come
pub rest-end : (held : List ℕ) (left : Option (List ℕ)) → held ≡ [] → left ≡ nothing_of left → prepend_known held left ≡ nothing_of (prepend_known held left)
rest-end held None h e = refl
rest-end held (Some xs) h e = let none : xs ≡ [] = cc e in ap (λ (l : List ℕ). Some l) (ap (λ (l : List ℕ). l ++ xs) h ∙ none)
