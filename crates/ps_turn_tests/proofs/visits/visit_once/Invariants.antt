use Rattle.std.proofs.Common.{[], ◌∷◌}
use Rattle.ps_turn.specs.Seats.{number_of}
use Rattle.ps_turn_tests.proofs.visits.visit_once.Given as goal

abbrev pub ghost-leave : goal.ghost-leave
ghost-leave g a = record { by = number_of a.seat.now } ∷ []
