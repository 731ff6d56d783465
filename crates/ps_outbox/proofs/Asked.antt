-- The notices of an address, those of a host, and an address have one digest.
use Rattle.std.proofs.Common.{◌≡◌, ℕ, true, List}
use Rattle.std.specs.Prelude.{bytes_eq, is_some}
use Rattle.ps_types.specs.declared.jid.Jid.{Jid}
use Rattle.ps_types.specs.declared.entry.Notice.{Notice}
use Rattle.ps_types.specs.Same.{same_bare}
use Rattle.ps_rows.specs.declared.index.Index.TheVariants.{Key, Node, Bare}
use Rattle.ps_rows.specs.Digests.{bare_digest, text_digest}
use Rattle.ps_rows.specs.Kin.{AsksKin}
use Rattle.ps_rows.specs.Standing.{AsksBy}
use Rattle.ps_rows.proofs.Sought.{one_address, one_text, bare-back, bare-on}
use Rattle.ps_outbox.specs.Boxes.{is_of, is_ready, is_to, peeked}
use Rattle.ps_outbox.proofs.Keeping.{both}
use Rattle.ps_outbox.specs.Keys.{notice_by, notice_kin, address_by, is_at}

pub to_bare : (who : Jid) → AsksBy (λ notice. is_to who notice) (λ seed. notice_by seed Node) (λ seed. bare_digest seed who)
to_bare who seed = record { alike = λ notice h. one_address seed who notice.to h }

pub to_host : (host : List ℕ) → AsksBy (λ notice. is_at host notice) (λ seed. notice_by seed Bare) (λ seed. text_digest seed host)
to_host host seed = record { alike = λ notice h. one_text seed host notice.to.host h }

pub address_of : (who : Jid) → AsksBy (λ address. same_bare who address) (λ seed. address_by seed Key) (λ seed. bare_digest seed who)
address_of who seed = record { alike = λ address h. one_address seed who address h }

-- with a notice all notices to its bare address are of the queue
pub kin_to_bare : (who : Jid) → AsksKin notice_kin (λ notice. is_to who notice)
kin_to_bare who = record { all = λ x y k h. bare-on who x.to y.to h k }

pub of_host : (host : List ℕ) → AsksBy (λ address. is_of host address) (λ seed. address_by seed Bare) (λ seed. text_digest seed host)
of_host host seed = record { alike = λ address h. one_text seed host address.host h }

pub ready_at : (host : List ℕ) (durable : ℕ) (waiting : List Notice) → AsksBy (λ address. is_ready host durable waiting address) (λ seed. address_by seed Bare) (λ seed. text_digest seed host)
ready_at host durable waiting seed = record { alike = λ address h. one_text seed host address.host (both (is_of host address) (is_some (peeked address durable waiting)) h).0 }
