use Rattle.std.proofs.Common.{rules, ◌≡◌, ◌||◌, ◌<◌, Bool, length, take, get_or, ap, refl, sym, ◌∙◌}
use Rattle.std.specs.BTreeSet.{insert_key}
use Rattle.std.specs.Ordering.{nat_cmp}
use Rattle.std.specs.Prelude.{nat_eq}
use Rattle.std.proofs.lemmas.List.Folds.{list_any_more}
use Rattle.ps_nodes.proofs.Places.{is_place-inserted}
use Rattle.ps_nodes.specs.Places.{is_place}
use Rattle.ps_events.proofs.Naming.{or-nothing, or-swap, or-three}
use Rattle.ps_events.proofs.named.put_all.Goals as goal

pub loop-place-init : goal.loop-place-init
loop-place-init c = λ at. or-nothing (is_place at c.args.places.now.keys) (is_place at (take 0 c.args.found.now)) refl

pub loop-place-preserved : goal.loop-place-preserved
loop-place-preserved c = λ at.
    let found = c.args.found.now in
    let i = c.loop-place.place-index in
    let place = get_or found i 0 in
    let keys = c.loop-place.places.keys in
    let before = is_place at c.args.places.now.keys in
    let put : c.insert.new.self.keys ≡ insert_key nat_cmp keys place = search rules in
    let less : i < length found = c.loop-place-test.true in
    ap (is_place at) put
    ∙ (is_place-inserted at place keys
    ∙ (or-swap (nat_eq at place) (is_place at keys)
    ∙ (ap (λ (b : Bool). b || nat_eq at place) (c.loop-place.invariant at)
    ∙ (or-three before (is_place at (take i found)) (nat_eq at place) ∙ ap (λ (b : Bool). before || b) (sym (list_any_more (nat_eq at) found i 0 less))))))
