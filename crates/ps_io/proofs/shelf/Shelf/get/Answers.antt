use Rattle.std.proofs.Common.{◌≡◌, ◌⊎◌, inl, inr, Some, None, sym, ◌∙◌, ap, Option}
use Rattle.std.specs.Prelude.{IfSome, IfNone}
use Rattle.std.specs.Option.{option_copied}
use denote.Ref.{Bor}
use Rattle.ps_io.proofs.Shelves.{at_place, at_none}
use Rattle.ps_io.proofs.shelf.Shelf.get.Goals as goal

seen : {T : Type 0} (o : Option (Bor T)) (held : Option T) (at : Option (Option T)) → at ≡ Some held → option_copied o ≡ held
    → IfSome o (λ x. at ≡ Some (Some x.now)) × IfNone o ((at ≡ None) ⊎ (at ≡ Some None))
seen None held at stands is = (tt, inr (stands ∙ ap Some (sym is)))
seen (Some x) held at stands is = (stands ∙ ap Some (sym is), tt)

pub returns-in_err-place-clause-none : goal.returns-in_err-place-clause-none
returns-in_err-place-clause-none g c = rw c.from_residual.ensures (inl (at_none c.args.self.now.slots.items c.args.name.now c.in_err-place.ensures))

pub returns-clause-some : goal.returns-clause-some
returns-clause-some g c =
    let here = at_place c.args.self.now.slots.items c.args.name.now c.in_ok-place.place c.index.result.now c.in_ok-place.ensures ∙ ap (λ (s : _). Some s.held) (sym c.index.ensures) in
    (seen c.as_ref.result _ _ here c.as_ref.ensures.value).0

pub returns-clause-none : goal.returns-clause-none
returns-clause-none g c =
    let here = at_place c.args.self.now.slots.items c.args.name.now c.in_ok-place.place c.index.result.now c.in_ok-place.ensures ∙ ap (λ (s : _). Some s.held) (sym c.index.ensures) in
    (seen c.as_ref.result _ _ here c.as_ref.ensures.value).1
