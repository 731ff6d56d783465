use Rattle.std.proofs.Common.{◌≡◌, ◌≢◌, ◌+◌, ◌<◌, List, [], ◌∷◌, Some, length, refl, sym, ◌∙◌, arith, subst}
use Rattle.std.specs.Prelude.{slice_get}
use Rattle.std.proofs.lemmas.Option.{slice_get_read}
use Rattle.ps_types.specs.declared.jid.Jid.{Jid}
use Rattle.ps_hall_state.proofs.OneRow.{there}
use Rattle.ps_hall.proofs.Refusals.{here_kept, kept_both}
use Rattle.ps_hall.proofs.Running.{first_held, first_refused, next_held, records_begin, records_one, records_still, some_length, still_standing}
use Rattle.ps_hall.proofs.ending.record_or_end.Goals as goal

-- ---- the first

pub record_first-requires-clause-standing : goal.record_first-requires-clause-standing
record_first-requires-clause-standing g c κs within =
    let t = there c.args.state.now.rows.items c.args.at c.requires.here in
    let held = c.requires.holding t.0 t.1 in
    (held.0, held.1)

pub record_first-requires-clause-held : goal.record_first-requires-clause-held
record_first-requires-clause-held g c κs within = λ row was.
    first_held c.args.state.now c.args.at row c.args.hand.now.items c.index.result.now
    (slice_get_read c.args.hand.now.items _ 0 c.index.result.now refl (some_length c.args.hand.now.items c.requires.some) c.index.ensures) (c.requires.holding row was) was

-- ---- the others

pub others-init : goal.others-init
others-init g c = (
  c.record_first.ensures.kept,
  records_begin c.args.state.now c.record_first.new.state c.args.hand.now.items c.index.result.now
      (slice_get_read c.args.hand.now.items _ 0 c.index.result.now refl (some_length c.args.hand.now.items c.requires.some) c.index.ensures) c.in-Ok.ensures.ok,
)

pub record-requires-clause-here : goal.record-requires-clause-here
record-requires-clause-here g c κs within = here_kept c.args.state.now c.others.state c.args.at c.others.invariant.0 c.requires.here

pub record-requires-clause-standing : goal.record-requires-clause-standing
record-requires-clause-standing g c κs within =
    let t = there c.args.state.now.rows.items c.args.at c.requires.here in
    still_standing c.args.state.now c.others.state c.args.at t.0 c.args.hand.now.items c.others.done (c.requires.holding t.0 t.1) c.others.invariant.1

pub record-requires-clause-held : goal.record-requires-clause-held
record-requires-clause-held g c κs within = λ r now.
    let t = there c.args.state.now.rows.items c.args.at c.requires.here in
    next_held c.args.state.now c.others.state c.args.at t.0 c.args.hand.now.items c.others.done c.index-in-others.result.now c.others.invariant.0 t.1 (c.requires.holding t.0 t.1) c.others.invariant.1
    (slice_get_read c.args.hand.now.items _ c.others.done c.index-in-others.result.now refl
    (let test = c.others-test.true in let size = c.len.ensures in let all = c.args.hand.now.ok.0 in omega (arith, test, size, all)) c.index-in-others.ensures) r now

pub others-preserved : goal.others-preserved
others-preserved g c = (
  kept_both c.args.state.now c.others.state c.record.new.self c.others.invariant.0 c.record.ensures.kept,
  records_one c.args.state.now c.others.state c.record.new.self c.args.hand.now.items c.others.done c.index-in-others.result.now c.others.invariant.1 c.in-Ok-record.ensures.ok
      (slice_get_read c.args.hand.now.items _ c.others.done c.index-in-others.result.now refl
      (let test = c.others-test.true in let size = c.len.ensures in let all = c.args.hand.now.ok.0 in omega (arith, test, size, all)) c.index-in-others.ensures)
      (let test = c.others-test.true in let size = c.len.ensures in let all = c.args.hand.now.ok.0 in omega (arith, test, size, all)) c.if-done-lt-MOST_AT_ONCE.true,
)

pub returns-in-Err-record-clause-kept : goal.returns-in-Err-record-clause-kept
returns-in-Err-record-clause-kept g c = kept_both c.args.state.now c.others.state c.record.new.self c.others.invariant.0 c.record.ensures.kept

pub returns-in-Err-record-clause-does : goal.returns-in-Err-record-clause-does
returns-in-Err-record-clause-does g c = λ row was. records_still c.args.state.now c.others.state c.record.new.self c.args.hand.now.items c.others.done c.index-in-others.result.now _
    c.others.invariant.1 c.in-Err-record.ensures.err

pub returns-after-others-clause-does : goal.returns-after-others-clause-does
returns-after-others-clause-does g c = λ row was. c.others.invariant.1

pub returns-else-done-lt-MOST_AT_ONCE-clause-does : goal.returns-else-done-lt-MOST_AT_ONCE-clause-does
returns-else-done-lt-MOST_AT_ONCE-clause-does g c = λ row was. c.others.invariant.1

pub returns-else-state-lt-MOST_STEPS-clause-does : goal.returns-else-state-lt-MOST_STEPS-clause-does
returns-else-state-lt-MOST_STEPS-clause-does g c = λ row was. c.others.invariant.1

pub returns-in-Err-clause-does : goal.returns-in-Err-clause-does
returns-in-Err-clause-does g c = λ row was. first_refused c.args.state.now c.record_first.new.state row.host c.args.hand.now.items c.index.result.now _
    (slice_get_read c.args.hand.now.items _ 0 c.index.result.now refl (some_length c.args.hand.now.items c.requires.some) c.index.ensures) (c.in-Err.ensures.err row was)
