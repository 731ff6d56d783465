use Rattle.ps_trace.specs.Own.{deeds}
use Rattle.ps_twin.specs.Seats.{number_of}
use Rattle.ps_hall_flush.specs.Homes.{bytes_in}
use Rattle.ps_hall.specs.Steps.{next_steps}
use Rattle.ps_hall.proofs.hall.Hall.next.Given as goal

abbrev pub ghost-leave_told : goal.ghost-leave_told
ghost-leave_told g a = deeds (number_of a.seat.now) (bytes_in a.home.state) (next_steps a.host.now a.next.now)
