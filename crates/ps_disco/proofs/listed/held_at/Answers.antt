use Rattle.std.proofs.Common.{rules, ap, map, ◌∙◌}
use Rattle.ps_types.specs.Shape.{holding}
use Rattle.ps_access.specs.Tables.{book_of}
use Rattle.ps_disco.specs.Entries.{Hold, held_rows, row_at}
use Rattle.ps_disco.proofs.listed.held_at.Goals as goal

pub returns : goal.returns
returns c =
    let rows = held_rows (book_of c.args.tables.now) c.args.key.now in
    let kids : Hold c.in_ok-kids.kids (map (row_at c.args.jid.now) rows) = search rules in
    kids ∙ ap (λ j. holding (map (row_at j) rows)) c.requires.jid
