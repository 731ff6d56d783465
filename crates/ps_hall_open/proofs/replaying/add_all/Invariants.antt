use Rattle.std.proofs.Common.{◌≡◌, ◌++◌}
use Rattle.ps_hall_open.proofs.replaying.add_all.Given as goal

abbrev pub invariant-loop-notice : goal.invariant-loop-notice
invariant-loop-notice l = (l.queues.waiting ++ l.notice-iterator.rest.items ≡ l.fn.queues.waiting ++ l.fn.notices.items) × (l.queues.held ≡ l.fn.queues.held)
