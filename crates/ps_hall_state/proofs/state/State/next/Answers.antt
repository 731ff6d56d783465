use Rattle.std.proofs.Common.{inl}
use Rattle.ps_hall_state.proofs.Calling.{first_ok, no_reply}
use Rattle.ps_hall_state.proofs.Telling.{one_recorded}
use Rattle.ps_hall_state.proofs.state.State.next.Goals as goal

pub returns-then-may_take_at-clause-ok : goal.returns-then-may_take_at-clause-ok
returns-then-may_take_at-clause-ok c = λ row was service some w is.
    let has = c.may_take_at.ensures.yes row was c.if-may_take_at.true in
    let f = c.take_reply.ensures.first row was in
    (first_ok c.args.self.now w c.args.at row f.0 f.1 _ is was has f.2 f.3, c.take_reply.ensures.goes row was service some w is)

pub returns-else-has_landed_at-clause-ok : goal.returns-else-has_landed_at-clause-ok
returns-else-has_landed_at-clause-ok c = λ row was service some w is. (
  no_reply c.args.self.now w c.args.at row is was (c.may_take_at.ensures.no row was c.if-may_take_at.false),
  inl (one_recorded c.args.self.now w c.args.at row is was (c.has_landed_at.ensures.no row was c.if-has_landed_at.false)),
  is,
)
