use Rattle.std.proofs.Common.{◌≡◌, ℕ, ◌<◌, ◌≤◌, Some, length}
use Rattle.std.specs.Prelude.{slice_get}
use Rattle.ps_types.specs.declared.entry.Notice.{Notice}
use Rattle.ps_outbox.specs.Boxes.{spare_for}
use Rattle.ps_hall_state.proofs.adding.reserve_all.Given as goal

abbrev pub invariant-loop-notice : goal.invariant-loop-notice
invariant-loop-notice l =
    (l.queues.waiting ≡ l.fn.queues.waiting) × (l.queues.held ≡ l.fn.queues.held) ×
    ((k : ℕ) (n : Notice) → k < l.notice-index → slice_get l.notices k ≡ Some n → length l.notices ≤ spare_for n.to l.queues)
