-- The row of a node that stands, and the readers that are answered for it.
use Rattle.std.proofs.Common.{◌≡◌, true, List, Option, Some, None, sym, ap, subst, ◌∙◌}
use Rattle.std.specs.Prelude.{is_some}
use Rattle.ps_types.specs.Nodes.{node_at, stands}
use Rattle.ps_types.specs.declared.node.NodeKey.{NodeKey}
use Rattle.ps_types.specs.declared.rows.NodeRow.{NodeRow}
use Rattle.ps_model.specs.Book.{Book}
use Rattle.ps_audit_laws.proofs.Reading.{row-node}
use Rattle.ps_audit.specs.Listed.{AreReaders, AreReadersAt, IsListOf}
use Rattle.ps_audit.specs.declared.listing.ReaderList.{ReaderList}

pub row-stands : (node : NodeKey) (rows : List NodeRow) (row : NodeRow) → node_at node rows ≡ Some row → stands row.key rows ≡ true
row-stands node rows row at = ap (λ (k : NodeKey). stands k rows) (sym (row-node node rows row at)) ∙ ap is_some at

pub some-readers : (book : Book) (node : NodeKey) (row : NodeRow) (list : ReaderList) → node_at node book.nodes ≡ Some row → IsListOf book row list → AreReaders book node (Some list)
some-readers book node row list at is = subst (λ (o : Option NodeRow). AreReadersAt o book (Some list)) (sym at) is

pub no-readers : (book : Book) (node : NodeKey) → node_at node book.nodes ≡ None → AreReaders book node None
no-readers book node at = subst (λ (o : Option NodeRow). AreReadersAt o book None) (sym at) tt
