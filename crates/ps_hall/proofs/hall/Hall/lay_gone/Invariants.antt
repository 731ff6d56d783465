use Rattle.ps_trace.specs.Own.{deeds}
use Rattle.ps_twin.specs.Seats.{number_of}
use Rattle.ps_hall_flush.specs.Homes.{bytes_in}
use Rattle.ps_hall.specs.Steps.{gone_steps}
use Rattle.ps_hall.proofs.hall.Hall.lay_gone.Given as goal

abbrev pub ghost-leave_gone : goal.ghost-leave_gone
ghost-leave_gone g a = deeds (number_of a.seat.now) (bytes_in a.home.state) (gone_steps a.host.now a.outcome.now)
