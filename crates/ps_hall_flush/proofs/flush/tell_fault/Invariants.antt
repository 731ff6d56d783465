use Rattle.std.proofs.Common.{◌∷◌, []}
use Rattle.ps_model.specs.declared.steps.Step.TheVariants.{Broken}
use Rattle.ps_trace.specs.Own.{deeds}
use Rattle.ps_twin.specs.Seats.{number_of}
use Rattle.ps_hall_flush.specs.Homes.{bytes_in}
use Rattle.ps_hall_flush.proofs.flush.tell_fault.Given as goal

abbrev pub ghost-leave_broken : goal.ghost-leave_broken
ghost-leave_broken g a = deeds (number_of a.seat.now) (bytes_in a.home.state) (Broken ∷ [])
