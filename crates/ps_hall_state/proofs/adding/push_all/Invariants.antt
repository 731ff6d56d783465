use Rattle.std.proofs.Common.{◌≡◌, ◌++◌, length}
use Rattle.ps_hall_state.specs.Steps.{AreSpare}
use Rattle.ps_hall_state.proofs.adding.push_all.Given as goal

abbrev pub invariant-loop-notice : goal.invariant-loop-notice
invariant-loop-notice l =
    (l.queues.waiting ++ l.notice-iterator.rest.items ≡ l.fn.queues.waiting ++ l.fn.notices.items) × AreSpare l.notice-iterator.rest.items (length l.notice-iterator.rest.items) l.queues ×
    (l.queues.held ≡ l.fn.queues.held)
