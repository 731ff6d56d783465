use Rattle.std.proofs.Common.{◌≡◌, ◌⊎◌, inl, inr, Some, None, Option, sym, ◌∙◌, ap}
use Rattle.std.specs.Prelude.{IfNone}
use Rattle.ps_io.proofs.Shelves.{at_place, at_none, set_here, set_elsewhere, at_some}
use Rattle.ps_io.proofs.shelf.Shelf.take.Goals as goal

pub returns-clause-taken : goal.returns-clause-taken
returns-clause-taken g c =
    let slot = c.index_mut-slot.result.now in
    let here = at_place c.args.self.now.slots.items c.args.name.now c.in_ok-place.place slot c.in_ok-place.ensures in
    at_some _ _ (λ x is. here ∙ ap (λ (s : _). Some s.held) (sym c.index_mut-slot.ensures.value) ∙ ap Some (sym c.take.ensures.value ∙ is))

pub returns-clause-lent : goal.returns-clause-lent
returns-clause-lent g c =
    let slot = c.index_mut-slot.result.now in
    at_some _ _ (λ x is. set_here c.args.self.now.slots.items c.args.name.now c.in_ok-place.place slot c.in_ok-place.ensures _ (ap (λ (s : _). s.name) c.index_mut-slot.ensures.value) ∙ ap Some
    c.take.ensures.after)

pub returns-clause-others : goal.returns-clause-others
returns-clause-others g c =
    let slot = c.index_mut-slot.result.now in
    set_elsewhere c.args.self.now.slots.items c.args.name.now c.in_ok-place.place slot c.in_ok-place.ensures _ (ap (λ (s : _). s.name) c.index_mut-slot.ensures.value)

pub returns-in_err-place-clause-absent : goal.returns-in_err-place-clause-absent
returns-in_err-place-clause-absent g c = rw c.from_residual.ensures (inl (at_none c.args.self.now.slots.items c.args.name.now c.in_err-place.ensures))

lent : {T : Type 0} (o held : Option T) (at : Option (Option T)) → at ≡ Some held → o ≡ held → IfNone o ((at ≡ None) ⊎ (at ≡ Some None))
lent None held at stands is = inr (stands ∙ ap Some (sym is))
lent (Some x) held at stands is = tt

pub returns-clause-absent : goal.returns-clause-absent
returns-clause-absent g c =
    let slot = c.index_mut-slot.result.now in
    let here = at_place c.args.self.now.slots.items c.args.name.now c.in_ok-place.place slot c.in_ok-place.ensures in
    lent c.take.result _ _ (here ∙ ap (λ (s : _). Some s.held) (sym c.index_mut-slot.ensures.value)) c.take.ensures.value
