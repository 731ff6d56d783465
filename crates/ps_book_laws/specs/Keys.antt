-- The key of each list of rows, and lists where no row has the key of another.
use Rattle.std.specs.Prelude.{◌≡◌, Bool, false, List, [], ◌∷◌}
use Rattle.std.specs.List.{AllByRecursion}
use Rattle.ps_types.specs.declared.rows.AffilRow.{AffilRow}
use Rattle.ps_types.specs.declared.rows.CountRow.{CountRow}
use Rattle.ps_types.specs.declared.rows.ItemRow.{ItemRow}
use Rattle.ps_types.specs.declared.rows.LinkRow.{LinkRow}
use Rattle.ps_types.specs.declared.rows.NodeRow.{NodeRow}
use Rattle.ps_types.specs.declared.rows.RosterRow.{RosterRow}
use Rattle.ps_types.specs.declared.rows.SubRow.{SubRow}
use Rattle.ps_types.specs.declared.rows.VerRow.{VerRow}
use Rattle.ps_types.specs.Affils.{is_affil_of}
use Rattle.ps_types.specs.Counts.{is_count_of}
use Rattle.ps_types.specs.Items.{is_item_of}
use Rattle.ps_types.specs.Links.{is_link_at}
use Rattle.ps_types.specs.Nodes.{is_node}
use Rattle.ps_types.specs.Rosters.{is_contact_of}
use Rattle.ps_types.specs.Subs.{is_sub_of}
use Rattle.ps_types.specs.Vers.{is_ver_of}
use Rattle.ps_model.specs.Book.{Book}

-- whether x has the key of r
-- a node's is its service and name (XEP-0060 §4.6)
abbrev pub node_key : NodeRow → NodeRow → Bool
node_key r x = is_node r.key x

-- an affiliation's is the node and the bare address (§4.1)
abbrev pub affil_key : AffilRow → AffilRow → Bool
affil_key r x = is_affil_of r.node r.who x

-- a subscription's is the node and the address as it is (§4.2)
abbrev pub sub_key : SubRow → SubRow → Bool
sub_key r x = is_sub_of r.node r.who x

-- an item's is the node and the id (§12.8)
abbrev pub item_key : ItemRow → ItemRow → Bool
item_key r x = is_item_of r.node r.id x

-- a contact's is the account and the contact's bare address (RFC 6121 §2.1)
abbrev pub roster_key : RosterRow → RosterRow → Bool
roster_key r x = is_contact_of r.account r.contact x

-- that of a verified capability string is the string (XEP-0115 §5)
abbrev pub ver_key : VerRow → VerRow → Bool
ver_key r x = is_ver_of r.ver x

-- a count's of made ids is the node and the bare address
abbrev pub count_key : CountRow → CountRow → Bool
count_key r x = is_count_of r.node r.who x

-- of links the child of r is one of the two ends of x: trees of collections grow from their leaves (XEP-0248 §4)
abbrev pub link_key : LinkRow → LinkRow → Bool
link_key r x = is_link_at r.child x

module _ {R : Type 0} where
  -- no later row has the key of an earlier one
  abbrev pub AreApart : (R → R → Bool) → List R → Type 0
  AreApart same [] = Unit {0}
  AreApart same (x ∷ xs) = AllByRecursion (λ y. same y x ≡ false) xs × AreApart same xs

-- the key of each row is its own
pub record HasKeys (book : Book) : Type 0 where
  pub nodes : AreApart node_key book.nodes
  pub affils : AreApart affil_key book.affils
  pub subs : AreApart sub_key book.subs
  pub items : AreApart item_key book.items
  pub links : AreApart link_key book.links
  pub rosters : AreApart roster_key book.rosters
  pub vers : AreApart ver_key book.vers
  pub counts : AreApart count_key book.counts
