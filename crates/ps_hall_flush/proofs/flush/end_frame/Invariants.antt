use Rattle.std.proofs.Common.{◌∷◌, []}
use Rattle.ps_model.specs.declared.steps.Step.TheVariants.{Flush}
use Rattle.ps_trace.specs.Own.{deeds}
use Rattle.ps_twin.specs.Seats.{number_of}
use Rattle.ps_hall_flush.specs.Homes.{bytes_in}
use Rattle.ps_hall_flush.proofs.flush.end_frame.Given as goal

abbrev pub ghost-leave_flushed : goal.ghost-leave_flushed
ghost-leave_flushed g a = deeds (number_of a.seat.now) (bytes_in a.home.state) (Flush a.upto ∷ [])
