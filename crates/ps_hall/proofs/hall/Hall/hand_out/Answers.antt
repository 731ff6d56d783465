use Rattle.std.proofs.Common.{rules, ◌≡◌, ◌∷◌, ◌++◌, length, ap, sym, ◌∙◌, subst, arith}
use Rattle.std.specs.Option.{option_to_list}
use Rattle.ps_twin.specs.Seats.{AreNew}
use Rattle.ps_hall.proofs.Dealing.{Dealt, dealt_all, dealt_length, dealt_on, dealt_out, none_so_far}
use Rattle.ps_hall.proofs.hall.Hall.hand_out.Goals as goal

pub loop-name-init : goal.loop-name-init
loop-name-init g c =
    let o = g.B.Opening.origin in
    let t = c.args.self.now.twin in
    let names : c.into_iter-name-iterator.result.rest.items ≡ c.args.names.items = search rules in
    let seats : c.into_iter-seats.result.rest.items ≡ c.args.seats.items = search rules in
    let new : AreNew t c.into_iter-seats.result.rest.items = subst (λ l. AreNew t l) (sym seats) c.requires.seats in
    let dealt = dealt_all o t c.into_iter-name-iterator.result.rest.items c.into_iter-seats.result.rest.items (names ∙ c.requires.names) c.args.self.now.two new in (
      subst (λ n. Dealt o t n c.into_iter-name-iterator.result.rest.items c.into_iter-seats.result.rest.items) (sym (ap length c.requires.empty)) dealt,
      none_so_far o t c.args.passes.items c.requires.empty,
      c.requires.room,
    )

pub push_reserved-requires : goal.push_reserved-requires
push_reserved-requires g c =
    let i = c.loop-name.invariant in
    let split : c.loop-name.name-iterator.rest.items ≡ c.in-Some.name ∷ c.next.new.self.rest.items = search rules in
    let size : length c.loop-name.name-iterator.rest.items ≡ length (c.in-Some.name ∷ c.next.new.self.rest.items) = ap length split in
    let all = dealt_length g.B.Opening.origin c.args.self.now.twin (length c.loop-name.passes.items) c.loop-name.name-iterator.rest.items c.loop-name.seats.rest.items i.0 in
    let room = i.2 in
    omega (arith, size, all, room, c.loop-name.passes.ok.0)

pub loop-name-preserved : goal.loop-name-preserved
loop-name-preserved g c =
    let i = c.loop-name.invariant in
    let r = c.unwrap.result in
    let w = c.unwrap-in-loop-name.result in
    let split : c.loop-name.name-iterator.rest.items ≡ c.in-Some.name ∷ c.next.new.self.rest.items = search rules in
    let one : c.loop-name.seats.rest.items ≡ r ∷ c.next-in-loop-name.new.self.rest.items = c.next-in-loop-name.ensures.items ∙ ap (λ x. option_to_list x ++ c.next-in-loop-name.new.self.rest.items)
    c.unwrap.ensures in
    let other : c.next-in-loop-name.new.self.rest.items ≡ w ∷ c.next-in-loop-name-2.new.self.rest.items = c.next-in-loop-name-2.ensures.items ∙ ap
    (λ x. option_to_list x ++ c.next-in-loop-name-2.new.self.rest.items) c.unwrap-in-loop-name.ensures in
    let place : c.len-at.result ≡ length c.loop-name.passes.items = omega arith in
    let room = i.2 in
    let on = dealt_on g.B.Opening.origin c.args.self.now.twin c.loop-name.name-iterator.rest.items c.next.new.self.rest.items c.in-Some.name c.loop-name.seats.rest.items
    c.next-in-loop-name-2.new.self.rest.items r w c.len-at.result _
    c.loop-name.passes.items c.push_reserved.new.self.items split (one ∙ ap (λ l. r ∷ l) other) place (record { reader = c.pass_of-reader.ensures; writer = c.pass_of-writer.ensures })
    c.push_reserved.ensures.items i.0 i.1 in
    (on.0, on.1, omega (arith, c.push_reserved.ensures.capacity, room))

pub returns : goal.returns
returns g c =
    let i = c.loop-name.invariant in
    let all = dealt_length g.B.Opening.origin c.args.self.now.twin (length c.loop-name.passes.items) c.loop-name.name-iterator.rest.items c.loop-name.seats.rest.items i.0 in
    let none = c.in-None.ensures.steps.0 in
    let len = c.loop-name.name-iterator.rest.ok.0 in
    let size : length c.loop-name.passes.items ≡ length g.B.Opening.origin.hosts = omega (arith, all, none, len) in
    dealt_out g.B.Opening.origin c.args.self.now.twin c.loop-name.passes.items size i.1
