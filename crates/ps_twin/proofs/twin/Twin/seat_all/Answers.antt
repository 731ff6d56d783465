use Rattle.std.proofs.Common.{◌≡◌, [], length, ◌+◌, ◌∷◌, ◌++◌, sym, ap, ◌∙◌, subst, arith}
use Rattle.ps_twin.specs.Twins.{tmaking, tmade_by}
use Rattle.ps_twin.specs.Seats.{IsAs}
use Rattle.ps_twin.proofs.Rows.{Row, crafted, newcome, row_more, row_new, row_first, row_length, row_one}
use Rattle.ps_twin.proofs.twin.Twin.seat_all.Goals as goal

pub loop-count-init : goal.loop-count-init
loop-count-init g c =
    let e = c.push_reserved.ensures.items ∙ ap (λ l. l ++ c.args.founder ∷ []) c.requires.room.0 in
    (row_one c.args.self.now _ c.args.founder e c.requires.founder, omega (arith, c.push_reserved.ensures.capacity, c.requires.room.1))

pub index_mut-requires : goal.index_mut-requires
index_mut-requires g c =
    let len = row_length c.args.self.now _ _ c.loop-count.invariant.0 in
    let many = c.loop-count.auto.count in
    omega (arith, c.loop-count.list.ok.0)

pub another-seat-requires-clause-twin : goal.another-seat-requires-clause-twin
another-seat-requires-clause-twin g c =
    let n = row_first c.args.self.now _ _ _ c.loop-count.invariant.0 c.index_mut.ensures.value in
    ((n.0, ap (λ m. m.0.base.live) n.1, n.2 ∙ sym (ap (λ m. length m.0.base.seen) n.1)), ap (λ m. m.0.base.place.stage) n.1)

pub another-seat-requires-clause-room : goal.another-seat-requires-clause-room
another-seat-requires-clause-room g c =
    let n = row_first c.args.self.now _ _ _ c.loop-count.invariant.0 c.index_mut.ensures.value in
    let made = ap (λ m. m.0.base.made) n.1 in
    let key = c.requires.room.2 in
    (omega (arith, made), omega (arith, made))

pub push_reserved-requires-in-loop-count : goal.push_reserved-requires-in-loop-count
push_reserved-requires-in-loop-count g c =
    let len = row_length c.args.self.now _ _ c.loop-count.invariant.0 in
    let room = c.loop-count.invariant.1 in
    omega (arith, c.loop-count.list.ok.0)

pub loop-count-preserved : goal.loop-count-preserved
loop-count-preserved g c =
    let t = c.args.self.now in
    let k = c.loop-count.count in
    let n = row_first t _ _ _ c.loop-count.invariant.0 c.index_mut.ensures.value in
    let a = c.another-seat.ensures in
    let first : IsAs t (crafted (k + 1)) c.another-seat.new.founder = (a.founder.0 ∙ n.0, a.founder.1 ∙ ap (λ m. (tmaking m.0, m.1)) n.1, a.founder.2 ∙ n.2) in
    let new : IsAs t (newcome k) c.another-seat.result = (a.new.0 ∙ n.0, a.new.1 ∙ ap (λ m. (tmade_by m.0, [])) n.1, a.new.2) in
    let row = row_more t k c.loop-count.list.items c.another-seat.new.founder c.another-seat.result c.loop-count.invariant.0 first new in
    (subst (Row t (k + 1)) (sym c.push_reserved-in-loop-count.ensures.items) row, omega (arith, c.push_reserved-in-loop-count.ensures.capacity, c.loop-count.invariant.1))

pub returns : goal.returns
returns g c =
    let done = c.loop-count-test.false in
    let last = c.loop-count.auto.count-end in
    let some_seat = c.args.self.now.sized.2 in
    let is : c.loop-count.count ≡ c.args.seats = omega (arith, c.requires.room.2) in
    row_new c.args.self.now _ _ (is ∙ c.requires.room.2) c.loop-count.invariant.0
