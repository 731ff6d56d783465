use Rattle.std.proofs.Common.{rules, ◌≡◌, ◌||◌, Some, None, ap, ap₂, sym, subst, ◌∙◌}
use Rattle.std.specs.Prelude.{nat_eq}
use Rattle.std.specs.BTreeSet.{insert_key}
use Rattle.std.specs.Ordering.{nat_cmp}
use Rattle.ps_access.specs.Tables.{book_of}
use Rattle.ps_nodes.proofs.Places.{is_place-inserted}
use Rattle.ps_nodes.specs.Places.{is_place}
use Rattle.ps_disco.specs.Held.{IsPlaceIn, is_held_at}
use Rattle.ps_disco.proofs.Steps.{any_next, any_same, at_place, or_back}
use Rattle.ps_disco.proofs.held.places_among.Goals as goal

pub loop-child-preserved-in_default : goal.loop-child-preserved-in_default
loop-child-preserved-in_default c = λ at.
    let book = book_of c.args.tables.now in
    let collection = c.args.collection.now in
    let here = at_place c.args.children.now c.loop-child.child-index c.child-item.result c.loop-child-test.true c.child-item.is in
    let none : IsPlaceIn book collection c.child-item.result None = subst (λ o. IsPlaceIn book collection c.child-item.result o) c.in_default.is c.place_of.ensures in
    c.loop-child.invariant at ∙ any_same (λ node. is_held_at book collection node at) c.args.children.now c.loop-child.child-index c.child-item.result here (none at)

pub loop-child-preserved : goal.loop-child-preserved
loop-child-preserved c = λ at.
    let book = book_of c.args.tables.now in
    let collection = c.args.collection.now in
    let place = c.in-Some.place in
    let keys = c.loop-child.places.keys in
    let here = at_place c.args.children.now c.loop-child.child-index c.child-item.result c.loop-child-test.true c.child-item.is in
    let some : IsPlaceIn book collection c.child-item.result (Some place) = subst (λ o. IsPlaceIn book collection c.child-item.result o) c.in-Some.is c.place_of.ensures in
    let put : c.insert.new.self.keys ≡ insert_key nat_cmp keys place = search rules in
    ap (is_place at) put
    ∙ (is_place-inserted at place keys
    ∙ (or_back (nat_eq at place) (is_place at keys)
    ∙ (ap₂ (λ a b. a || b) (c.loop-child.invariant at) (some at) ∙ sym (any_next (λ node. is_held_at book collection node at) c.args.children.now c.loop-child.child-index c.child-item.result here))))
