use Rattle.std.proofs.Common.{List, ℕ, [], ◌∷◌, subst}
use Rattle.ps_types.specs.declared.entry.Entry.TheVariants.{Handed}
use Rattle.ps_model.specs.declared.steps.Role.TheVariants.{Writer}
use Rattle.ps_model.specs.declared.steps.Step.TheVariants.{Ended}
use Rattle.ps_hall_state.specs.Steps.{GoesBy}
use Rattle.ps_hall_state.specs.declared.answers.HandedRefusal.TheVariants.{Full}
use Rattle.ps_hall.proofs.Refusals.{here_kept, kept_both, refused_few, row_kept}
use Rattle.ps_hall.proofs.ending.record_first.Goals as goal

pub writer_ended-requires-clause-here : goal.writer_ended-requires-clause-here
writer_ended-requires-clause-here g c = here_kept c.args.state.now c.record.new.self c.args.at c.in-Err-Full.ensures.kept c.requires.here

pub writer_ended-requires-clause-few : goal.writer_ended-requires-clause-few
writer_ended-requires-clause-few g c =
    refused_few c.args.state.now c.record.new.self (Handed c.args.to.now) Full c.requires.standing (rw c.in-Err-Full.field-0-is at c.in-Err-Full.ensures.err) c.requires.few

pub returns-in-Err-Full-clause-kept : goal.returns-in-Err-Full-clause-kept
returns-in-Err-Full-clause-kept g c = kept_both c.args.state.now c.record.new.self c.writer_ended.new.self c.in-Err-Full.ensures.kept c.writer_ended.ensures.kept

pub returns-in-Err-Full-clause-err : goal.returns-in-Err-Full-clause-err
returns-in-Err-Full-clause-err g c row was =
    let v = c.args.state.now in
    let mid = c.record.new.self in
    let now = c.writer_ended.new.self in
    let r = row_kept v mid c.args.at row c.in-Err-Full.ensures.kept was in
    (mid, rw c.in-Err-Full.field-0-is at c.in-Err-Full.ensures.err, subst (λ (h : List ℕ). GoesBy mid now (Ended h Writer)) r.2 (c.writer_ended.ensures.goes r.0 r.1))

pub returns-in-Err-Store-clause-err : goal.returns-in-Err-Store-clause-err
returns-in-Err-Store-clause-err g c row was = (c.record.new.self, rw c.in-Err-Store.field-0-is at c.in-Err-Store.ensures.err, λ service named w stands. stands)

pub returns-in-Err-Memory-clause-err : goal.returns-in-Err-Memory-clause-err
returns-in-Err-Memory-clause-err g c row was = (c.record.new.self, rw c.in-Err-Memory.field-0-is at c.in-Err-Memory.ensures.err, λ service named w stands. stands)
