-- The numbers of one bare address have one digest, whatever its resource.
use Rattle.std.proofs.Common.{◌≡◌, ℕ, Bool, true, List, refl, ap}
use Rattle.ps_types.specs.Address.{bare}
use Rattle.ps_types.specs.Same.{same_bare}
use Rattle.ps_types.specs.declared.jid.Jid.{Jid}
use Rattle.ps_types.specs.declared.rows.TallyRow.{TallyRow}
use Rattle.ps_base.specs.Rows.{put_row}
use Rattle.ps_model.specs.Tallies.{is_tally_of, tallies_with}
use Rattle.ps_rows.specs.declared.index.Index.{Index}
use Rattle.ps_rows.specs.declared.index.Index.TheVariants.{Key, Node, Bare}
use Rattle.ps_rows.specs.Digests.{bare_digest}
use Rattle.ps_rows.specs.Standing.{AsksBy}
use Rattle.ps_rows.proofs.Sought.{bare-back, one_address}
use Rattle.ps_notice_numbers.specs.Keys.{tally_by, tally_kin}

pub tally_of : (who : Jid) → AsksBy (λ row. is_tally_of who row) (λ seed. tally_by seed Key) (λ seed. bare_digest seed who)
tally_of who seed = record { alike = λ row h. one_address seed who row.who h }

-- a row of the same bare address has the same digests
pub alike : (seed : ℕ) (row old : TallyRow) (index : Index) → is_tally_of row.who old ≡ true → tally_by seed index old ≡ tally_by seed index row
alike seed row old Key h = one_address seed row.who old.who h
alike seed row old Node h = one_address seed row.who old.who h
alike seed row old Bare h = refl

pub kin : (row old : TallyRow) → is_tally_of row.who old ≡ true → tally_kin old row ≡ true
kin row old h = bare-back row.who old.who h

same-bare : (who : Jid) (row : TallyRow) → is_tally_of (bare who) row ≡ is_tally_of who row
unfolding same_bare
same-bare who row = refl

-- a row is of an address as it is of its bare one
pub put-bare : (who : Jid) (row : TallyRow) (rows : List TallyRow) → put_row (is_tally_of (bare who)) row rows ≡ put_row (is_tally_of who) row rows
put-bare who row rows = ap (λ (test : TallyRow → Bool). put_row test row rows) (λ i r. same-bare who r i)
