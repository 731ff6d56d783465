use Rattle.std.proofs.Common.{◌≡◌, refl, sym, ◌∙◌, subst}
use Rattle.ps_hall_state.specs.declared.state.HostRow.{HostRow}
use Rattle.ps_hall_state.specs.Rows.{TakesFirst}
use Rattle.ps_hall_state.proofs.OneRow.{first_low, same_some, some_waits}
use Rattle.ps_hall_state.proofs.Stepping.{numbers_kept, take_ok}
use Rattle.ps_hall_state.proofs.state.State.take_reply.Goals as goal

pub take_at-reply-requires-clause-some : goal.take_at-reply-requires-clause-some
take_at-reply-requires-clause-some c = λ row was. some_waits row (c.requires.has row was)

pub returns-clause-kept : goal.returns-clause-kept
returns-clause-kept c =
    let t = c.take_at-reply.ensures.takes in
    numbers_kept c.args.self.now _ c.args.at t.0 t.1 t.2 t.3.4.host (record { count = refl; length_same = refl; broken = refl; flushed = refl; durable_same = refl; limits = refl })

pub returns-clause-first : goal.returns-clause-first
returns-clause-first c = λ row was.
    let t = c.take_at-reply.ensures.takes in
    let same : t.0 ≡ row = same_some t.0 row (sym t.2.was ∙ was) in
    let first = subst (λ (r : HostRow). TakesFirst c.take_at-reply.result r t.1) same t.3 in
    (first.0, first.1, first.2, first.3)

pub returns-clause-goes : goal.returns-clause-goes
returns-clause-goes c = λ row was.
    let t = c.take_at-reply.ensures.takes in
    let same : t.0 ≡ row = same_some t.0 row (sym t.2.was ∙ was) in
    let first = subst (λ (r : HostRow). TakesFirst c.take_at-reply.result r t.1) same t.3 in
    take_ok c.args.self.now _ c.args.at row t.1 first.0 first.1 was first.2 (first_low row c.args.self.now.flushed first.0 first.1 (c.requires.has row was) first.2) first.4 t.2.is refl
    (record { steps = refl; queues = refl; held = refl; batch = refl; rest = record { count = refl; length_same = refl; broken = refl; flushed = refl; durable_same = refl; limits = refl } })
