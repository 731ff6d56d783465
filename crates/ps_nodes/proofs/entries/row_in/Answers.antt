use Rattle.std.proofs.Common.{◌∙◌}
use Rattle.ps_rows.proofs.Turns.{found_none, found_row}
use Rattle.ps_types.specs.Nodes.{is_node}
use Rattle.ps_nodes.proofs.entries.row_in.Goals as goal

pub returns-in-Some : goal.returns-in-Some
returns-in-Some c =
    c.get.ensures.row ∙ found_row (is_node c.args.node.now) c.args.slots.now.rows c.seek_node.result c.in-Some.place c.seek_node.ensures.before c.in-Some.is c.in-Some.ensures.here

pub returns-in-None : goal.returns-in-None
returns-in-None c = found_none (is_node c.args.node.now) c.args.slots.now.rows c.seek_node.result c.seek_node.ensures.before c.in-None.is
