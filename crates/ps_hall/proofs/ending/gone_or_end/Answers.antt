use Rattle.std.proofs.Common.{List, ℕ, subst}
use Rattle.ps_types.specs.declared.entry.Entry.TheVariants.{Gone as GoneEntry}
use Rattle.ps_model.specs.declared.steps.Role.TheVariants.{Reader}
use Rattle.ps_model.specs.declared.steps.Step.TheVariants.{Ended}
use Rattle.ps_hall_state.specs.Steps.{GoesBy}
use Rattle.ps_hall_state.proofs.OneRow.{there}
use Rattle.ps_hall.proofs.Refusals.{here_kept, kept_both, refused_few, row_kept}
use Rattle.ps_hall.proofs.ending.gone_or_end.Goals as goal

pub reader_ended-requires-clause-here : goal.reader_ended-requires-clause-here
reader_ended-requires-clause-here g c = here_kept c.args.state.now c.gone.new.self c.args.at c.in-Err.ensures.kept c.requires.here

pub reader_ended-requires-clause-few : goal.reader_ended-requires-clause-few
reader_ended-requires-clause-few g c =
    let v = c.args.state.now in
    let row = there v.rows.items c.args.at c.requires.here in
    refused_few v c.gone.new.self (GoneEntry row.0.host) c.in-Err.refusal c.requires.standing (c.in-Err.ensures.err row.0 row.1) c.requires.few

pub returns-in-Err-clause-kept : goal.returns-in-Err-clause-kept
returns-in-Err-clause-kept g c = kept_both c.args.state.now c.gone.new.self c.reader_ended.new.self c.in-Err.ensures.kept c.reader_ended.ensures.kept

pub returns-in-Err-clause-does : goal.returns-in-Err-clause-does
returns-in-Err-clause-does g c row was =
    let v = c.args.state.now in
    let mid = c.gone.new.self in
    let now = c.reader_ended.new.self in
    let r = row_kept v mid c.args.at row c.in-Err.ensures.kept was in
    (mid, c.in-Err.ensures.err row was, subst (λ (h : List ℕ). GoesBy mid now (Ended h Reader)) r.2 (c.reader_ended.ensures.goes r.0 r.1))
