-- What holds of every Book that a lawful list of entries leaves.
use Rattle.std.specs.List.{AllByRecursion}
use Rattle.ps_model.specs.Book.{Book}
use Rattle.ps_model.specs.Bounds.{IsBounded}
use Rattle.ps_book_laws.specs.Keys.{HasKeys}
use Rattle.ps_book_laws.specs.Linked.{IsConfigured, IsLinkRow}
use Rattle.ps_book_laws.specs.Rows.{IsAffilRow, IsAtLeaf, IsCountRow, IsSubRow}

-- nodes, links and the rows of nodes agree
pub record IsSound (book : Book) : Type 0 where
  pub keys : HasKeys book
  pub links : AllByRecursion (IsLinkRow book.nodes) book.links
  pub configured : AllByRecursion (IsConfigured book.links) book.nodes
  pub affils : AllByRecursion (IsAffilRow book.nodes) book.affils
  pub subs : AllByRecursion (IsSubRow book.nodes) book.subs
  pub counts : AllByRecursion (IsCountRow book.nodes) book.counts

-- items lie at leaves, and no node holds more of them than it may ("pubsub#max_items", XEP-0060 §16.4.4)
pub record HoldsItems (book : Book) : Type 0 where
  pub leaves : AllByRecursion (IsAtLeaf book.nodes) book.items
  pub bounded : IsBounded book
