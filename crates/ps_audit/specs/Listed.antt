-- Who is known at a node, and who may read it, as it is answered.
use Rattle.std.specs.Prelude.{◌≡◌, List, Option, Some, None, filter, map}
use Rattle.ps_types.specs.Address.{bare}
use Rattle.ps_types.specs.Nodes.{node_at}
use Rattle.ps_types.specs.Rosters.{is_contact_at}
use Rattle.ps_types.specs.declared.jid.Jid.{Jid}
use Rattle.ps_types.specs.declared.node.NodeKey.{NodeKey}
use Rattle.ps_types.specs.declared.rows.AffilRow.{AffilRow}
use Rattle.ps_types.specs.declared.rows.NodeRow.{NodeRow}
use Rattle.ps_types.specs.declared.rows.RosterRow.{RosterRow}
use Rattle.ps_types.specs.declared.rows.SubRow.{SubRow}
use Rattle.ps_model.specs.Book.{Book}
use Rattle.ps_audit_laws.specs.Readers.{others, readers}
use Rattle.ps_audit.specs.declared.listing.ReaderList.{ReaderList}

-- ---- the bare addresses of rows

abbrev pub affil_whos : List AffilRow → List Jid
affil_whos rows = map (λ (r : AffilRow). bare r.who) rows

abbrev pub sub_whos : List SubRow → List Jid
sub_whos rows = map (λ (r : SubRow). bare r.who) rows

-- of the rows of an account
abbrev pub contact_whos : Jid → List RosterRow → List Jid
contact_whos account rows = map (λ (r : RosterRow). bare r.contact) (filter (is_contact_at account) rows)

-- ---- the answer

-- each known address with its verdict, and what holds of all others
pub record IsListOf (book : Book) (row : NodeRow) (list : ReaderList) : Type 0 where
  pub known : list.known.items ≡ readers book row
  pub others_are : list.others ≡ others row

-- a list where the node stands, and none where it doesn't
abbrev pub AreReadersAt : Option NodeRow → Book → Option ReaderList → Type 0
AreReadersAt None book None = Unit {0}
AreReadersAt None book (Some list) = ⊥
AreReadersAt (Some row) book None = ⊥
AreReadersAt (Some row) book (Some list) = IsListOf book row list

abbrev pub AreReaders : Book → NodeKey → Option ReaderList → Type 0
AreReaders book node answer = AreReadersAt (node_at node book.nodes) book answer
