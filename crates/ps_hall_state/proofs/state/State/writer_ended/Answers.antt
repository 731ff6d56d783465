use Rattle.std.proofs.Common.{◌≡◌, refl, sym, ◌∙◌, subst}
use Rattle.ps_model.specs.declared.steps.Role.TheVariants.{Writer}
use Rattle.ps_hall_state.specs.declared.state.HostRow.{HostRow}
use Rattle.ps_hall_state.specs.Rows.{RowEnds}
use Rattle.ps_hall_state.proofs.OneRow.{same_some}
use Rattle.ps_hall_state.proofs.Stepping.{end_ok, numbers_kept}
use Rattle.ps_hall_state.proofs.state.State.writer_ended.Goals as goal

pub returns-clause-kept : goal.returns-clause-kept
returns-clause-kept c =
    let ends = c.end_writer.ensures.ends in
    numbers_kept c.args.self.now _ c.args.at ends.0 ends.1 ends.2 ends.3.host (record { count = refl; length_same = refl; broken = refl; flushed = refl; durable_same = refl; limits = refl })

pub returns-clause-goes : goal.returns-clause-goes
returns-clause-goes c = λ row was.
    let ends = c.end_writer.ensures.ends in
    let same : ends.0 ≡ row = same_some ends.0 row (sym ends.2.was ∙ was) in
    end_ok c.args.self.now _ c.args.at row ends.1 Writer was (subst (λ (r : HostRow). RowEnds Writer r ends.1) same ends.3) ends.2.is refl
    (record { steps = refl; queues = refl; held = refl; batch = refl; rest = record { count = refl; length_same = refl; broken = refl; flushed = refl; durable_same = refl; limits = refl } })
