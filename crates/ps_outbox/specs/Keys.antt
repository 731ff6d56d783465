-- By what notices and addresses are found.
use Rattle.std.specs.Prelude.{ℕ, Bool, List, [], None, bytes_eq}
use Rattle.ps_types.specs.declared.entry.Notice.{Notice}
use Rattle.ps_types.specs.declared.jid.Jid.{Jid}
use Rattle.ps_types.specs.Same.{same_bare}
use Rattle.ps_rows.specs.declared.index.Index.{Index}
use Rattle.ps_rows.specs.declared.index.Index.TheVariants.{Key, Node, Bare}
use Rattle.ps_rows.specs.Digests.{bare_digest, text_digest}
use Rattle.ps_rows.specs.Kin.{IsKin}
use Rattle.ps_rows.specs.RowKeys.{resource_kin_is}
use Rattle.ps_types.specs.declared.rows.ResourceRow.{ResourceRow}

-- a notice by its bare address, and by its host
abbrev pub notice_by : ℕ → Index → Notice → ℕ
notice_by seed Key notice = 0
notice_by seed Node notice = bare_digest seed notice.to
notice_by seed Bare notice = text_digest seed notice.to.host

abbrev pub notice_kin : Notice → Notice → Bool
notice_kin a b = same_bare a.to b.to

abbrev as_row : Jid → ResourceRow
as_row who = record { who = who; caps = None; features = [] }

pub notice_kin_is : IsKin notice_kin
notice_kin_is = record {
  itself = λ x. resource_kin_is.itself (as_row x.to);
  back = λ x y h. resource_kin_is.back (as_row x.to) (as_row y.to) h;
  on = λ x y z h k. resource_kin_is.on (as_row x.to) (as_row y.to) (as_row z.to) h k;
}

-- an address by its bare address, and by its host
abbrev pub address_by : ℕ → Index → Jid → ℕ
address_by seed Key who = bare_digest seed who
address_by seed Node who = bare_digest seed who
address_by seed Bare who = text_digest seed who.host

abbrev pub address_kin : Jid → Jid → Bool
address_kin a b = same_bare a b

pub address_kin_is : IsKin address_kin
address_kin_is = record {
  itself = λ x. resource_kin_is.itself (as_row x);
  back = λ x y h. resource_kin_is.back (as_row x) (as_row y) h;
  on = λ x y z h k. resource_kin_is.on (as_row x) (as_row y) (as_row z) h k;
}

abbrev pub is_at : List ℕ → Notice → Bool
is_at host notice = bytes_eq host notice.to.host
