use Rattle.std.proofs.Common.{subst}
use Rattle.std.specs.Prelude.{OnOk}
use Rattle.ps_types.specs.declared.entry.Entry.{Entry}
use Rattle.ps_model.specs.declared.steps.Step.TheVariants.{Gone}
use Rattle.ps_hall_state.specs.Gone.{IsRecorded}
use Rattle.ps_hall_state.proofs.Calling.{gone_kind}
use Rattle.ps_hall_state.proofs.state.State.gone.Goals as goal

pub lay_gone-requires-clause-gone : goal.lay_gone-requires-clause-gone
lay_gone-requires-clause-gone g c κs within = gone_kind c.args.self.now c.args.at c.in-Ok.entry c.requires.here c.requires.standing c.in-Ok.ensures.gone

pub returns-in-Ok-clause-ok : goal.returns-in-Ok-clause-ok
returns-in-Ok-clause-ok g c = λ row was.
    let kind = c.in-Ok.ensures.gone row was in
    subst (λ (x : Entry). OnOk c.lay_gone.result (IsRecorded c.args.self.now c.lay_gone.new.self x (Gone row.host))) kind (c.lay_gone.ensures.ok row.host kind)
