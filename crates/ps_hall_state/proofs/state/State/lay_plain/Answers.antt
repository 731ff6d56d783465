use Rattle.std.proofs.Common.{◌≡◌, ◌+◌, sym, ◌∙◌, subst, None, append-nil}
use Rattle.ps_hall_state.specs.declared.state.HostRow.{HostRow}
use Rattle.ps_hall_state.specs.Rows.{RowSays}
use Rattle.ps_hall_state.proofs.OneRow.{same_some}
use Rattle.ps_hall_state.proofs.Stepping.{batch_same, lay_ok, numbers_kept}
use Rattle.ps_hall_state.proofs.state.State.lay_plain.Goals as goal

pub returns-clause-kept : goal.returns-clause-kept
returns-clause-kept c = let says = c.say.ensures.says in numbers_kept c.args.self.now c.say.new.self c.args.at says.0 says.1 says.2 says.3.host c.say.ensures.on.rest

pub returns-clause-goes : goal.returns-clause-goes
returns-clause-goes c = λ row was.
    let says = c.say.ensures.says in
    let on = c.say.ensures.on in
    let same : says.0 ≡ row = same_some says.0 row (sym says.2.was ∙ was) in
    lay_ok c.args.self.now c.say.new.self c.args.at row says.1 c.args._arrival.now c.args._full c.args.reply None was
    (subst (λ (r : HostRow). RowSays r says.1 (c.args.self.now.steps + 1) c.args.reply) same says.3) says.2.is
    c.say.ensures.state (on.queues ∙ sym (append-nil c.args.self.now.queues.waiting)) (c.requires.reply row was) (c.requires.entry row was) on.held
    (batch_same c.args.self.now c.say.new.self c.say.ensures.state on.batch on.rest) on.rest on.steps
