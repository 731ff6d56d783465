use Rattle.std.proofs.Common.{sym}
use Rattle.ps_model.proofs.LineLaws.{reads-line, no-json, no-tree, too-deep}
use Rattle.ps_core.proofs.taking.read_line.Goals as goal

pub returns-in-Ok : goal.returns-in-Ok
returns-in-Ok c = sym (reads-line _ _ c.in-Ok.ensures.tree)

pub returns-in-Err-L2 : goal.returns-in-Err-L2
returns-in-Err-L2 c = let h = rw c.in-Err-L2.field-0-is at c.in-Err-L2.ensures.cause in sym (no-json _ h)

pub returns-in-Err-L3 : goal.returns-in-Err-L3
returns-in-Err-L3 c = let h = rw c.in-Err-L3.field-0-is at c.in-Err-L3.ensures.cause in sym (no-tree _ h.0 h.1 h.2)

pub returns-in-Err-L4 : goal.returns-in-Err-L4
returns-in-Err-L4 c = let h = rw c.in-Err-L4.field-0-is at c.in-Err-L4.ensures.cause in sym (too-deep _ h.0 h.1 h.2 h.3 h.4)
