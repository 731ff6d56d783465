use Rattle.std.proofs.Common.{[], ◌∷◌}
use Rattle.ps_model.specs.declared.steps.Step.TheVariants.{Ended}
use Rattle.ps_trace.specs.Own.{deeds}
use Rattle.ps_twin.specs.Seats.{number_of}
use Rattle.ps_hall_flush.specs.Homes.{bytes_in}
use Rattle.ps_hall.proofs.hall.Hall.end_reader.Given as goal

abbrev pub ghost-leave_ended : goal.ghost-leave_ended
ghost-leave_ended g a = deeds (number_of a.seat.now) (bytes_in a.home.state) (Ended a.host.now a.role ∷ [])
