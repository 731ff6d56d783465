use Rattle.ps_hall_state.proofs.Calling.{no_memory, stays}
use Rattle.ps_hall_state.proofs.state.State.lay_open.Goals as goal

pub returns-in-Err-clause-err : goal.returns-in-Err-clause-err
returns-in-Err-clause-err g c = λ row was. no_memory c.args.self.now c.args.self.now c.args.at row was (c.requires.opened row was) (stays c.args.self.now)
