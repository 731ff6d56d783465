-- The parts of a sound Book, as the kinds of requests keep them one by one.
use Rattle.std.specs.Prelude.{◌≡◌, true}
use Rattle.std.specs.List.{AllByRecursion}
use Rattle.ps_types.specs.declared.rows.LinkRow.{LinkRow}
use Rattle.ps_types.specs.Nodes.{stands}
use Rattle.ps_model.specs.Book.{Book}
use Rattle.ps_book_laws.specs.Keys.{HasKeys}
use Rattle.ps_book_laws.specs.Linked.{IsConfigured, IsLinkRow}
use Rattle.ps_book_laws.specs.Rows.{IsAffilRow, IsAtLeaf, IsCountRow, IsSubRow}

-- links name nodes that stand
abbrev pub LinksStand : Book → Type 0
LinksStand book = AllByRecursion (λ (l : LinkRow). (stands l.child book.nodes ≡ true) × (stands l.collection book.nodes ≡ true)) book.links

pub record IsKeyed (book : Book) : Type 0 where
  pub keys : HasKeys book
  pub links : LinksStand book

-- links and configurations say the same
pub record IsLinked (book : Book) : Type 0 where
  pub links : AllByRecursion (IsLinkRow book.nodes) book.links
  pub configured : AllByRecursion (IsConfigured book.links) book.nodes

-- affiliations, subscriptions and counts of ids are of nodes that stand
pub record IsRowed (book : Book) : Type 0 where
  pub affils : AllByRecursion (IsAffilRow book.nodes) book.affils
  pub subs : AllByRecursion (IsSubRow book.nodes) book.subs
  pub counts : AllByRecursion (IsCountRow book.nodes) book.counts

abbrev pub AreAtLeaves : Book → Type 0
AreAtLeaves book = AllByRecursion (IsAtLeaf book.nodes) book.items
