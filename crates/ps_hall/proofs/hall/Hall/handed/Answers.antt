use Rattle.std.proofs.Common.{◌≡◌, ℕ, List, Ok, Err, drop, inl, inr, refl, ap, subst, sym, ◌∙◌}
use Rattle.ps_types.specs.declared.jid.Jid.{Jid}
use Rattle.ps_twin.specs.Seats.{seen_of, number_of}
use Rattle.ps_hall.specs.Calls.{HandAt, HasHanded}
use Rattle.ps_hall_flush.specs.Flush.{Flushes, NotFlushed}
use Rattle.ps_hall.proofs.Flying.{hand_landed}
use Rattle.ps_hall.proofs.hall.Hall.handed.Goals as goal

pub returns-in-Ok-clause-hand : goal.returns-in-Ok-clause-hand
returns-in-Ok-clause-hand g c =
    let o = g.B.Opening.origin in
    let x = c.record-recorded.ensures in
    let does = rw c.in_ok-count.was at x.does in
    let old = c.args.pass.now.seat in
    let mid = c.record-recorded.new.seat in
    let new = c.flush_seat.new.seat in
    let host = c.args.pass.now.host in
    let hand = c.args.pass.now.in_hand.items in
    subst (λ (h : List Jid). HandAt o h host new) (sym c.let_go.ensures)
    (hand_landed o (number_of old) host hand (drop c.in_ok-count.count hand) (tt {0}) (seen_of old) (seen_of mid) (seen_of new) x.differ
    (c.args.pass.now.at, c.requires.writer.pass.here, c.requires.writer.number) c.requires.hand does
    (subst (λ (k : ℕ). Flushes o k (seen_of mid) (seen_of new)) x.number c.in-Ok.ensures.ok))

pub returns-in-Ok-clause-handed : goal.returns-in-Ok-clause-handed
returns-in-Ok-clause-handed g c =
    let o = g.B.Opening.origin in
    let x = c.record-recorded.ensures in
    let does = rw c.in_ok-count.was at x.does in
    let old = c.args.pass.now.seat in
    let mid = c.record-recorded.new.seat in
    let new = c.flush_seat.new.seat in
    let hand = c.args.pass.now.in_hand.items in
    subst (λ (l : List Jid). HasHanded {T = Unit {0}} o (number_of old) c.args.pass.now.host hand l (seen_of old) (seen_of new) (Ok (tt {0}))) (sym c.let_go.ensures)
    (record { mid = seen_of mid; recorded = does; after = subst (λ (k : ℕ). Flushes o k (seen_of mid) (seen_of new)) x.number c.in-Ok.ensures.ok })

pub returns-in-Err-Store-clause-handed : goal.returns-in-Err-Store-clause-handed
returns-in-Err-Store-clause-handed g c =
    let o = g.B.Opening.origin in
    let x = c.record-recorded.ensures in
    let does = rw c.in_ok-count.was at x.does in
    let mid = c.record-recorded.new.seat in
    let new = c.flush_seat.new.seat in
    inr (
      refl,
      record {
        rest = drop c.in_ok-count.count c.args.pass.now.in_hand.items;
        recorded = record { mid = seen_of mid; recorded = does; after = subst (λ (k : ℕ). NotFlushed o k (seen_of mid) (seen_of new)) x.number c.in-Err-Store.ensures.err };
        still = refl;
      },
    )
