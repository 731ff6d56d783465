use Rattle.ps_trace.specs.Own.{deeds}
use Rattle.ps_twin.specs.Seats.{number_of}
use Rattle.ps_hall_flush.specs.Homes.{bytes_in}
use Rattle.ps_hall.specs.Steps.{record_steps}
use Rattle.ps_hall.proofs.handed.record.Given as goal

abbrev pub ghost-leave_recorded : goal.ghost-leave_recorded
ghost-leave_recorded g a = deeds (number_of a.seat.now) (bytes_in a.home.state) (record_steps a.host.now a.hand.now.items a.outcome.now)
