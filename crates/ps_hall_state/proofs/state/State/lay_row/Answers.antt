use Rattle.ps_hall_state.proofs.Calling.{no_memory, row_few, stays}
use Rattle.ps_hall_state.proofs.state.State.lay_row.Goals as goal

pub replies_at-requires-clause-lines : goal.replies_at-requires-clause-lines
replies_at-requires-clause-lines g c = λ row was. row_few c.args.self.now c.args.at row c.requires.standing was c.requires.few

pub returns-in-Err-clause-err : goal.returns-in-Err-clause-err
returns-in-Err-clause-err g c = λ row was. no_memory c.args.self.now c.args.self.now c.args.at row was (c.requires.opened row was) (stays c.args.self.now)
