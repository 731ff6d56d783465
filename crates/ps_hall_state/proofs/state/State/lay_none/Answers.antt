use Rattle.std.proofs.Common.{refl, false, None}
use Rattle.ps_hall_state.proofs.Calling.{laid_ok, lines_ok}
use Rattle.ps_hall_state.proofs.state.State.lay_none.Goals as goal

pub lay_plain-requires-clause-lines : goal.lay_plain-requires-clause-lines
lay_plain-requires-clause-lines c = lines_ok c.args.self.now c.args.at c.requires.standing c.requires.few c.requires.opened

pub returns-clause-laid : goal.returns-clause-laid
returns-clause-laid c = λ row was.
    laid_ok c.args.self.now c.lay_plain.new.self c.args.at row c.args.arrival.now _ false c.args.reply None was (c.requires.opened row was) (c.requires.reply row was) (c.requires.entry row was)
    refl c.count-place.ensures.count c.plain_outcome-outcome.ensures (c.lay_plain.ensures.goes row was)
