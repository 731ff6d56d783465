-- The marks of the names where no place is empty, and once all are marked anew.
use Rattle.std.proofs.Common.{◌≡◌, ℕ, ◌≤◌, List, [], ◌∷◌, Option, Some, None, refl, ap, arith, length}
use Rattle.ps_rows.specs.Standing.{marked_by, marks_of, packed, standing}
use Rattle.ps_rows.proofs.Packed.{standing-packed}
use Rattle.ps_rows.proofs.Walk.{standing-le}
use Rattle.ps_nodes.proofs.Cuts.{packed-full}

module _ {R : Type 0} where
  pub marks-full : (by : R → ℕ) (slots : List (Option R)) → length (standing slots) ≡ length slots → marks_of by slots ≡ marked_by by slots
  marks-full by [] h = refl
  marks-full by (None ∷ xs) h = let l = standing-le xs in absurd (omega (arith, l, h))
  marks-full by (Some x ∷ xs) h = ap (λ r. Some (by x) ∷ r) (marks-full by xs (omega (arith, h)))

  pub packed-le : (slots : List (Option R)) → length (packed slots) ≤ length slots
  packed-le slots =
      let f = packed-full slots in
      let s = ap length (standing-packed slots) in
      let l = standing-le slots in
      omega (arith, f, s, l)
