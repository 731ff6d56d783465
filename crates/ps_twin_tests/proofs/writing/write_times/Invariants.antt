use Rattle.ps_twin_tests.specs.Writing.{IsReady}
use Rattle.ps_twin_tests.proofs.writing.write_times.Given as goal

abbrev pub invariant-loop-at : goal.invariant-loop-at
invariant-loop-at g l = IsReady l.twin l.by l.seat
