use Rattle.std.proofs.Common.{None, sym, ◌∙◌, ap}
use Rattle.ps_io.proofs.Shelves.{set_here, set_elsewhere, has_place}
use Rattle.ps_io.proofs.shelf.Shelf.give_back.Goals as goal

pub unwrap-place-requires : goal.unwrap-place-requires
unwrap-place-requires g c = has_place c.args.self.now.slots.items c.args.name.now None _ c.requires c.place_of.ensures

pub returns-clause-here : goal.returns-clause-here
returns-clause-here g c =
    set_here c.args.self.now.slots.items c.args.name.now c.unwrap-place.result c.index_mut-slot.result.now (sym c.unwrap-place.ensures ∙ c.place_of.ensures) _
    (ap (λ (s : _). s.name) c.index_mut-slot.ensures.value)

pub returns-clause-others : goal.returns-clause-others
returns-clause-others g c =
    set_elsewhere c.args.self.now.slots.items c.args.name.now c.unwrap-place.result c.index_mut-slot.result.now (sym c.unwrap-place.ensures ∙ c.place_of.ensures) _
    (ap (λ (s : _). s.name) c.index_mut-slot.ensures.value)
