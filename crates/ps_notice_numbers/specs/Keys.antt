-- The digests of the rows, and which of them are kin: those of one bare address.
use Rattle.std.specs.Prelude.{ℕ, Bool, [], None}
use Rattle.ps_types.specs.Same.{same_bare}
use Rattle.ps_types.specs.declared.rows.ResourceRow.{ResourceRow}
use Rattle.ps_types.specs.declared.rows.TallyRow.{TallyRow}
use Rattle.ps_rows.specs.declared.index.Index.{Index}
use Rattle.ps_rows.specs.declared.index.Index.TheVariants.{Key, Node, Bare}
use Rattle.ps_rows.specs.Digests.{bare_digest}
use Rattle.ps_rows.specs.Kin.{IsKin}
use Rattle.ps_rows.specs.RowKeys.{resource_kin_is}

-- a tally by its bare address
abbrev pub tally_by : ℕ → Index → TallyRow → ℕ
tally_by seed Key row = bare_digest seed row.who
tally_by seed Node row = bare_digest seed row.who
tally_by seed Bare row = 0

abbrev pub tally_kin : TallyRow → TallyRow → Bool
tally_kin x y = same_bare x.who y.who

abbrev as_resource : TallyRow → ResourceRow
as_resource row = record { who = row.who; caps = None; features = [] }

pub tally_kin_is : IsKin tally_kin
tally_kin_is = record {
  itself = λ x. resource_kin_is.itself (as_resource x);
  back = λ x y h. resource_kin_is.back (as_resource x) (as_resource y) h;
  on = λ x y z h k. resource_kin_is.on (as_resource x) (as_resource y) (as_resource z) h k;
}
