use Rattle.std.proofs.Common.{◌≡◌, sym, subst, ap, ◌∙◌}
use Rattle.std.specs.List.{AllByRecursion as Each}
use Rattle.ps_access.specs.Tables.{book_of}
use Rattle.ps_audit_laws.specs.Readers.{known}
use Rattle.ps_audit_laws.proofs.Reading.{known-addresses}
use Rattle.ps_model.specs.Book.{Book, State}
use Rattle.ps_model.specs.Replay.{replay}
use Rattle.ps_nodes.specs.NodeRows.{row_seen}
use Rattle.ps_types.specs.Address.{IsAddress}
use Rattle.ps_types.specs.Nodes.{node_at}
use Rattle.ps_audit.proofs.Rows.{row-stands}
use Rattle.ps_audit.proofs.reading.readers.Goals as goal

pub reader_list-requires-clause-stands : goal.reader_list-requires-clause-stands
reader_list-requires-clause-stands c = row-stands c.args.node.now c.tables-tables.result.now.nodes.rows (row_seen c.in-Some.row) (sym c.in-Some.ensures.row)

pub reader_list-requires-clause-addresses : goal.reader_list-requires-clause-addresses
reader_list-requires-clause-addresses c =
    let E = c.requires.replayed.0 in
    let node = c.args.node.now in
    let row = row_seen c.in-Some.row in
    let left : book_of c.tables-tables.result.now ≡ (replay E).book = c.tables-tables.ensures.book ∙ ap (λ (s : State). s.book) c.requires.replayed.2 in
    subst (λ (b : Book). Each IsAddress (known b row)) (sym left) (known-addresses E c.requires.replayed.1 node row (ap (λ (b : Book). node_at node b.nodes) (sym left) ∙ sym c.in-Some.ensures.row))
