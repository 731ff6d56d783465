use Rattle.ps_trace.specs.Own.{deeds}
use Rattle.ps_twin.specs.Seats.{number_of}
use Rattle.ps_hall_flush.specs.Homes.{bytes_in}
use Rattle.ps_hall.specs.Steps.{lay_steps}
use Rattle.ps_hall.proofs.hall.Hall.lay.Given as goal

abbrev pub ghost-leave_laid : goal.ghost-leave_laid
ghost-leave_laid g a = deeds (number_of a.seat.now) (bytes_in a.home.state) (lay_steps a.host.now a.arrival.now a.outcome.now)
