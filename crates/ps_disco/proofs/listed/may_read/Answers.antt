use Rattle.std.proofs.Common.{rules, ◌≡◌, false}
use Rattle.std.specs.Prelude.{is_some}
use Rattle.ps_types.specs.Nodes.{node_at}
use Rattle.ps_access.specs.Tables.{book_of}
use Rattle.ps_disco.proofs.Keyed.{none_reads}
use Rattle.ps_disco.proofs.listed.may_read.Goals as goal

pub returns-then-not-has : goal.returns-then-not-has
returns-then-not-has c =
    let key = c.args.key.now in
    let stood = node_at key c.args.tables.now.nodes.rows in
    let none : is_some stood ≡ false = search rules in
    none_reads stood (book_of c.args.tables.now) key c.args.who.now none
