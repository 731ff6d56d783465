use Rattle.std.proofs.Common.{◌≡◌, ◌<◌, List, true, sym, subst}
use Rattle.ps_types.specs.declared.entry.Notice.{Notice}
use Rattle.ps_outbox.specs.Boxes.{Boxes, has_box, spare_for}
use Rattle.ps_outbox.specs.Kept.{QueuesAreKept}
use Rattle.ps_outbox.proofs.Keeping.{notice_more}
use Rattle.ps_outbox.proofs.Readied.{known_by_spare}
use Rattle.ps_outbox.proofs.boxes.Outboxes.push.Goals as goal

pub invariant_of-self : goal.invariant_of-self
invariant_of-self c =
    let known : has_box c.self.inside.free.rows c.self.inside.held.rows c.args.notice.to ≡ true =
    known_by_spare (has_box c.self.inside.free.rows c.self.inside.held.rows c.args.notice.to) c.self.inside.waiting.spare
    (subst (λ (b : Boxes). 0 < spare_for c.args.notice.to b) (sym c.self.view_is) c.requires.room) in
    subst (λ (l : List Notice). QueuesAreKept l c.self.inside.free c.self.inside.held.rows c.ordered-last.result.0 c.ordered-last.result.1) (sym c.add.ensures.rows)
    (notice_more c.self.inside.waiting.rows c.self.inside.free c.self.inside.held.rows c.self.inside.last c.self.inside.in_order c.args.notice c.ordered-last.result c.ordered-last.ensures known
    c.self.invariant)
