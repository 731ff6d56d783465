use Rattle.std.proofs.Common.{refl}
use Rattle.ps_model.proofs.LineLaws.{reads-line, no-json, no-tree, too-deep}
use Rattle.ps_compact_import.proofs.NoticeLines.{answer-as-read, as-read}
use Rattle.ps_compact_import.proofs.notices.accepts_notice.Goals as goal

pub returns-in-Ok : goal.returns-in-Ok
returns-in-Ok c =
    record { accepted = answer-as-read c.args.to.now c.args.tallies.now.rows c.args.line.now _ _ _ c.made.ensures.made (reads-line _ _ c.in-Ok.ensures.tree) c.is_notice_tree.ensures }

pub returns-in-Err-L2 : goal.returns-in-Err-L2
returns-in-Err-L2 c =
    let h = rw c.in-Err-L2.field-0-is at c.in-Err-L2.ensures.cause in
    record { accepted = as-read c.args.to.now c.args.tallies.now.rows c.args.line.now _ _ refl (no-json _ h) }

pub returns-in-Err-L3 : goal.returns-in-Err-L3
returns-in-Err-L3 c =
    let h = rw c.in-Err-L3.field-0-is at c.in-Err-L3.ensures.cause in
    record { accepted = as-read c.args.to.now c.args.tallies.now.rows c.args.line.now _ _ refl (no-tree _ h.0 h.1 h.2) }

pub returns-in-Err-L4 : goal.returns-in-Err-L4
returns-in-Err-L4 c =
    let h = rw c.in-Err-L4.field-0-is at c.in-Err-L4.ensures.cause in
    record { accepted = as-read c.args.to.now c.args.tallies.now.rows c.args.line.now _ _ refl (too-deep _ h.0 h.1 h.2 h.3 h.4) }
