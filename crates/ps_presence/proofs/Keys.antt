-- The resource of one address, those of one bare address and of one host, and the rows of one capability string have one digest.
use Rattle.std.proofs.Common.{◌≡◌, ℕ, true, List}
use Rattle.ps_types.specs.declared.jid.Jid.{Jid}
use Rattle.ps_types.specs.declared.rows.ResourceRow.{ResourceRow}
use Rattle.ps_types.specs.Resources.{is_resource_of, is_resource_at, is_resource_on}
use Rattle.ps_types.specs.Vers.{is_ver_of}
use Rattle.ps_rows.specs.declared.index.Index.{Index}
use Rattle.ps_rows.specs.declared.index.Index.TheVariants.{Key, Node, Bare}
use Rattle.ps_rows.specs.Digests.{bare_digest, jid_digest, text_digest}
use Rattle.ps_rows.specs.RowKeys.{resource_by, resource_kin, ver_by}
use Rattle.ps_rows.specs.Standing.{AsksBy}
use Rattle.ps_rows.proofs.Sought.{one_address, one_jid, one_text, one_host, bare_of_jid, bare-back}

pub resource_of : (who : Jid) → AsksBy (λ row. is_resource_of who row) (λ seed. resource_by seed Key) (λ seed. jid_digest seed who)
resource_of who seed = record { alike = λ row h. one_jid seed who row.who h }

pub of_bare : (who : Jid) → AsksBy (λ row. is_resource_at who row) (λ seed. resource_by seed Node) (λ seed. bare_digest seed who)
of_bare who seed = record { alike = λ row h. one_address seed who row.who h }

pub on_host : (host : List ℕ) → AsksBy (λ row. is_resource_on host row) (λ seed. resource_by seed Bare) (λ seed. text_digest seed host)
on_host host seed = record { alike = λ row h. one_text seed host row.who.host h }

pub ver_of : (ver : List ℕ) → AsksBy (λ row. is_ver_of ver row) (λ seed. ver_by seed Key) (λ seed. text_digest seed ver)
ver_of ver seed = record { alike = λ row h. one_text seed ver row.ver h }

-- a row of the same address has the same digests
pub alike : (seed : ℕ) (row old : ResourceRow) (index : Index) → is_resource_of row.who old ≡ true → resource_by seed index old ≡ resource_by seed index row
alike seed row old Key h = one_jid seed row.who old.who h
alike seed row old Node h = one_address seed row.who old.who (bare_of_jid row.who old.who h)
alike seed row old Bare h = one_host seed row.who old.who (bare_of_jid row.who old.who h)

pub kin : (row old : ResourceRow) → is_resource_of row.who old ≡ true → resource_kin old row ≡ true
kin row old h = bare-back row.who old.who (bare_of_jid row.who old.who h)
