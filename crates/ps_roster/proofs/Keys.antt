-- The contacts of one account, and those of an account and an address, have one digest.
use Rattle.std.proofs.Common.{◌≡◌, ℕ, true, refl}
use Rattle.ps_types.specs.declared.jid.Jid.{Jid}
use Rattle.ps_types.specs.declared.rows.RosterRow.{RosterRow}
use Rattle.ps_types.specs.Rosters.{is_contact_at, is_contact_of}
use Rattle.ps_types.specs.Same.{same_bare}
use Rattle.ps_rows.specs.declared.index.Index.{Index}
use Rattle.ps_rows.specs.declared.index.Index.TheVariants.{Key, Node, Bare}
use Rattle.ps_rows.specs.Digests.{bare_digest, pair_digest}
use Rattle.ps_rows.specs.RowKeys.{roster_by, roster_kin}
use Rattle.ps_rows.specs.Kin.{AsksKin}
use Rattle.ps_rows.specs.Standing.{AsksBy}
use Rattle.ps_rows.proofs.Sought.{both, one_address, one_pair, bare-back, bare-on}

pub of_account : (account : Jid) → AsksBy (λ row. is_contact_at account row) (λ seed. roster_by seed Node) (λ seed. bare_digest seed account)
of_account account seed = record { alike = λ row h. one_address seed account row.account h }

pub contact_of : (account contact : Jid) → AsksBy (λ row. is_contact_of account contact row) (λ seed. roster_by seed Key) (λ seed. pair_digest seed account contact)
contact_of account contact seed = record {
  alike = λ row h. (let p = both (same_bare account row.account) (same_bare contact row.contact) h in one_pair seed account row.account contact row.contact
      p.0 p.1);
}

-- with a contact all contacts of its account are of the account
pub kin_of_account : (account : Jid) → AsksKin roster_kin (λ row. is_contact_at account row)
kin_of_account account = record { all = λ x y k h. bare-on account x.account y.account h k }

-- a row of the same key has the same digests
pub alike : (seed : ℕ) (row old : RosterRow) (index : Index) → is_contact_of row.account row.contact old ≡ true → roster_by seed index old ≡ roster_by seed index row
alike seed row old Key h = let p = both (same_bare row.account old.account) (same_bare row.contact old.contact) h in one_pair seed row.account old.account row.contact old.contact p.0 p.1
alike seed row old Node h = one_address seed row.account old.account (both (same_bare row.account old.account) (same_bare row.contact old.contact) h).0
alike seed row old Bare h = refl

pub kin : (row old : RosterRow) → is_contact_of row.account row.contact old ≡ true → roster_kin old row ≡ true
kin row old h = bare-back row.account old.account (both (same_bare row.account old.account) (same_bare row.contact old.contact) h).0
