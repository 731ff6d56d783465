use Rattle.std.proofs.Common.{ap}
use Rattle.ps_io.proofs.Shelves.{set_here, set_elsewhere, push_here, push_elsewhere}
use Rattle.ps_io.proofs.shelf.Shelf.put.Goals as goal

pub returns-in-Some-clause-here : goal.returns-in-Some-clause-here
returns-in-Some-clause-here g c =
    set_here c.args.self.now.slots.items c.args.name.now c.in-Some.place c.index_mut-slot.result.now c.in-Some.ensures _ (ap (λ (s : _). s.name) c.index_mut-slot.ensures.value)

pub returns-in-Some-clause-others : goal.returns-in-Some-clause-others
returns-in-Some-clause-others g c =
    set_elsewhere c.args.self.now.slots.items c.args.name.now c.in-Some.place c.index_mut-slot.result.now c.in-Some.ensures _ (ap (λ (s : _). s.name) c.index_mut-slot.ensures.value)

pub returns-in_ok-push-in-None-clause-here : goal.returns-in_ok-push-in-None-clause-here
returns-in_ok-push-in-None-clause-here g c = push_here c.args.self.now.slots.items c.push.new.self.items _ c.args.name.now c.in_ok-name-in-None.ensures c.in_ok-push-in-None.ensures.items
    c.in-None.ensures

pub returns-in_ok-push-in-None-clause-others : goal.returns-in_ok-push-in-None-clause-others
returns-in_ok-push-in-None-clause-others g c = push_elsewhere c.args.self.now.slots.items c.push.new.self.items _ c.args.name.now c.in_ok-name-in-None.ensures c.in_ok-push-in-None.ensures.items
