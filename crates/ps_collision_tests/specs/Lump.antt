-- Rows of which all have one digest.
use Rattle.std.specs.Prelude.{◌≡◌, ℕ, Bool, true, nat_eq}
use Rattle.std.proofs.Common.{subst}
use Rattle.std.specs.Cmp.{nat_eq_equiv}
use Rattle.std.proofs.lemmas.Map.Views.{exact_unsigned_eq}
use Rattle.ps_collision_tests.specs.declared.lump.Lump.{Lump}
use Rattle.ps_rows.specs.declared.index.Index.{Index}
use Rattle.ps_rows.specs.Kin.{IsKin}

-- the digest of all
abbrev pub lump_by : ℕ → Index → Lump → ℕ
lump_by seed index row = 7

abbrev pub lump_kin : Lump → Lump → Bool
lump_kin x y = nat_eq x.group y.group

one : (a b : ℕ) → nat_eq a b ≡ true → nat_eq b a ≡ true
one a b h = subst (λ x. nat_eq x a ≡ true) (exact_unsigned_eq a b h) (nat_eq_equiv.refl a)

pub lump_kin_is : IsKin lump_kin
lump_kin_is = record {
  itself = λ x. nat_eq_equiv.refl x.group;
  back = λ x y h. one x.group y.group h;
  on = λ x y z h k. subst (λ n. nat_eq x.group n ≡ true) (exact_unsigned_eq y.group z.group k) h;
}
