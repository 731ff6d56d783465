use Rattle.std.proofs.Common.{true, false, sym, ◌∙◌}
use Rattle.ps_compact_codec.specs.Said.{row_said}
use Rattle.ps_compact_codec.proofs.Kept.{compared-is}
use Rattle.ps_compact_codec.proofs.read.read_row.Goals as goal

pub returns-then-branch : goal.returns-then-branch
returns-then-branch c =
    record { row = compared-is c.args.tree.now (row_said c.in-Ok.row) true c.in-Ok.ensures (sym c.if-branch.true ∙ c.in_ok-is_written-in-Ok.ensures) }

pub returns-else-branch : goal.returns-else-branch
returns-else-branch c =
    record { row = compared-is c.args.tree.now (row_said c.in-Ok.row) false c.in-Ok.ensures (sym c.if-branch.false ∙ c.in_ok-is_written-in-Ok.ensures) }
