use Rattle.std.proofs.Common.{◌<◌, ◌||◌, Bool, length, take, ap, sym, ◌∙◌}
use Rattle.std.specs.Prelude.{slice_get}
use Rattle.ps_nodes.specs.Places.{is_place}
use Rattle.ps_rows.specs.Standing.{passes_at}
use Rattle.ps_events.specs.Wanted.{asks_for, is_asked_for}
use Rattle.ps_events.proofs.Naming.{at-more, at-nothing}
use Rattle.ps_events.proofs.named.places_asked.Goals as goal

pub loop-feature-init : goal.loop-feature-init
loop-feature-init c = λ at. ap (is_place at) c.new-places.ensures.empty ∙ at-nothing (slice_get c.args.nodes.now.rows at)

pub loop-feature-preserved : goal.loop-feature-preserved
loop-feature-preserved c = λ at.
    let o = slice_get c.args.nodes.now.rows at in
    let features = c.args.features.now in
    let i = c.loop-feature.feature-index in
    let feature = c.feature-item.result in
    let less : i < length features = c.loop-feature-test.true in
    let before = passes_at (is_asked_for (take i features)) o in
    c.in_ok-add_asked.ensures at
    ∙ (ap (λ (b : Bool). b || passes_at (asks_for feature) o) (c.loop-feature.invariant at)
    ∙ (ap (λ f. before || passes_at (asks_for f) o) c.feature-item.is ∙ sym (at-more features i feature less o)))
