use Rattle.std.proofs.Common.{◌≡◌}
use Rattle.ps_turn.specs.Seats.{number_of, IsSeatOf, IsFree}
use Rattle.ps_turn_tests.proofs.diary.add_times.Given as goal

abbrev pub invariant-loop-at : goal.invariant-loop-at
invariant-loop-at g l = IsSeatOf l.turn l.seat × IsFree l.seat × (number_of l.seat ≡ l.by)
