use Rattle.std.proofs.Common.{◌||◌, Bool, ap, subst, ◌∙◌}
use Rattle.std.specs.Prelude.{slice_get}
use Rattle.ps_nodes.specs.Places.{is_place}
use Rattle.ps_rows.specs.Standing.{passes_at}
use Rattle.ps_events.specs.Wanted.{IsNameOf, asks_for}
use Rattle.ps_events.proofs.Naming.{at-named, at-none, or-nothing}
use Rattle.ps_events.proofs.named.add_asked.Goals as goal

pub returns-in_ok-add_named : goal.returns-in_ok-add_named
returns-in_ok-add_named c = λ at.
    let before = is_place at c.args.places.now.keys in
    c.in_ok-add_named.ensures at
    ∙ ap (λ (b : Bool). before || b) (at-named c.in-Some.name.now c.args.feature.now c.in-Some.ensures (slice_get c.args.nodes.now.rows at))

pub returns-in_default : goal.returns-in_default
returns-in_default c = λ at.
    let feature = c.args.feature.now in
    let o = slice_get c.args.nodes.now.rows at in
    let none = subst (λ n. IsNameOf feature n) c.in_default.is c.name_in.ensures in
    or-nothing (is_place at c.args.places.now.keys) (passes_at (asks_for feature) o) (at-none feature none o)
