use Rattle.ps_twin.specs.Seats.{seen_of, number_of}
use Rattle.ps_hall.proofs.Refusals.{gone_refused}
use Rattle.ps_hall.proofs.hall.Hall.gone.Goals as goal

pub returns-in-Err-clause-gone : goal.returns-in-Err-clause-gone
returns-in-Err-clause-gone g c = gone_refused g.B.Opening.origin (number_of c.args.pass.now.seat) c.args.pass.now.host (seen_of c.args.pass.now.seat) (seen_of c.lay_gone.new.pass.seat)
    c.in-Err.refusal c.in-Err.ensures.does
