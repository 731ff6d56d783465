-- All lumps have one digest.
use Rattle.std.proofs.Common.{◌≡◌, ℕ, true, ◌&&◌, refl, subst}
use Rattle.std.specs.Prelude.{nat_eq}
use Rattle.std.proofs.lemmas.Map.Views.{exact_unsigned_eq}
use Rattle.ps_rows.specs.declared.index.Index.TheVariants.{Key, Node}
use Rattle.ps_rows.specs.Kin.{AsksKin}
use Rattle.ps_rows.specs.Standing.{AsksBy}
use Rattle.ps_rows.proofs.Sought.{both}
use Rattle.ps_collision_tests.specs.declared.lump.Lump.{Lump}
use Rattle.ps_collision_tests.specs.Lump.{lump_by, lump_kin, lump_kin_is}

pub of : (row : Lump) → AsksBy (λ x. nat_eq row.group x.group && nat_eq row.key x.key) (λ seed. lump_by seed Key) (λ seed. 7)
of row seed = record { alike = λ x h. refl }

pub in_group : (group : ℕ) → AsksBy (λ x. nat_eq group x.group) (λ seed. lump_by seed Node) (λ seed. 7)
in_group group seed = record { alike = λ x h. refl }

pub kin_in_group : (group : ℕ) → AsksKin lump_kin (λ x. nat_eq group x.group)
kin_in_group group = record { all = λ x y k h. subst (λ n. nat_eq group n ≡ true) (exact_unsigned_eq x.group y.group k) h }

pub kin : (row old : Lump) → nat_eq row.group old.group && nat_eq row.key old.key ≡ true → lump_kin old row ≡ true
kin row old h = lump_kin_is.back row old (both (nat_eq row.group old.group) (nat_eq row.key old.key) h).0
