use Rattle.ps_rehearse_lines.proofs.Whole.{has-line, no-tree-counts}
use Rattle.ps_rehearse_lines.proofs.counting.Counts.with_line.Goals as goal

pub returns-in-Ok : goal.returns-in-Ok
returns-in-Ok c = has-line c.args.line.now c.in-Ok.tree c.args.self c.with_tree.result c.in-Ok.ensures.tree c.with_tree.ensures

pub returns-in-Err-L2 : goal.returns-in-Err-L2
returns-in-Err-L2 c = no-tree-counts c.args.line.now _ c.args.self (λ e. cc e) c.in-Err-L2.ensures.cause

pub returns-in-Err-L3 : goal.returns-in-Err-L3
returns-in-Err-L3 c = no-tree-counts c.args.line.now _ c.args.self (λ e. cc e) c.in-Err-L3.ensures.cause

pub returns-in-Err-L4 : goal.returns-in-Err-L4
returns-in-Err-L4 c = no-tree-counts c.args.line.now _ c.args.self (λ e. cc e) c.in-Err-L4.ensures.cause
