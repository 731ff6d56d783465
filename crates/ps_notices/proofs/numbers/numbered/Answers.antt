use Rattle.std.proofs.Common.{rules, ◌≡◌, ◌<◌, ◌^◌, ◌∷◌, ◌++◌, [], List, length, ap, arith, sym, subst, ◌∙◌}
use Rattle.ps_types.specs.declared.entry.Notice.{Notice}
use Rattle.ps_notices.proofs.Counting.{Numbering, number-fits, numbering-begins, numbering-on}
use Rattle.ps_notices.proofs.numbers.numbered.Goals as goal

pub loop-told-init : goal.loop-told-init
loop-told-init c = numbering-begins c.args.place c.args.tallies.now.rows c.in_ok-here.here.rows c.args.due.items _ _ c.in_ok-here.ensures.empty (search rules) (search rules)

pub next_number-number-requires : goal.next_number-number-requires
next_number-number-requires c =
    let split : c.loop-told.told-iterator.rest.items ≡ c.in-Some.told ∷ c.next.new.self.rest.items = search rules in
    let short : length c.args.due.items < 2 ^ 63 = (let long = c.args.due.ok.0 in let room = c.args.due.ok.1 in let small = c.args.due.small in omega (arith, long, room, small)) in
    record {
      fits = number-fits c.args.place c.args.tallies.now.rows c.loop-told.here.rows c.args.due.items c.loop-told.told-iterator.rest.items c.next.new.self.rest.items c.loop-told.notices.items
          c.in-Some.told c.in-Some.told.0 c.loop-told.invariant split c.requires.few short;
    }

pub count-requires : goal.count-requires
count-requires c =
    let split : c.loop-told.told-iterator.rest.items ≡ c.in-Some.told ∷ c.next.new.self.rest.items = search rules in
    let short : length c.args.due.items < 2 ^ 63 = (let long = c.args.due.ok.0 in let room = c.args.due.ok.1 in let small = c.args.due.small in omega (arith, long, room, small)) in
    let few = number-fits c.args.place c.args.tallies.now.rows c.loop-told.here.rows c.args.due.items c.loop-told.told-iterator.rest.items c.next.new.self.rest.items c.loop-told.notices.items
    c.in-Some.told c.in-Some.told.0 c.loop-told.invariant split c.requires.few short in
    record { fits = omega (arith, few) }

pub loop-told-preserved : goal.loop-told-preserved
loop-told-preserved c =
    let split : c.loop-told.told-iterator.rest.items ≡ c.in-Some.told ∷ c.next.new.self.rest.items = search rules in
    subst (λ (ns : List Notice). Numbering c.args.place c.args.tallies.now.rows c.count.new.here.rows c.args.due.items c.next.new.self.rest.items ns)
    (sym (c.in_ok-push.ensures.items ∙ ap (λ (n : Notice). c.loop-told.notices.items ++ n ∷ []) c.in_ok-notice_of.ensures))
    (numbering-on c.args.place c.args.tallies.now.rows c.loop-told.here.rows c.count.new.here.rows c.args.due.items c.loop-told.told-iterator.rest.items c.next.new.self.rest.items
    c.loop-told.notices.items c.in-Some.told c.next_number-number.result c.loop-told.invariant split c.in_ok-count.ensures c.next_number-number.ensures)
