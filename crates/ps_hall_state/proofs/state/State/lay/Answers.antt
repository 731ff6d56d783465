use Rattle.ps_hall_state.proofs.Calling.{away_ok}
use Rattle.ps_hall_state.proofs.state.State.lay.Goals as goal

pub returns-in-Some-clause-err : goal.returns-in-Some-clause-err
returns-in-Some-clause-err g c = λ row was. away_ok c.args.self.now c.args.at row _ was (c.in-Some.ensures.some row was)
