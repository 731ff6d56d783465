use Rattle.std.proofs.Common.{◌++◌, ap, sym, get_or, ◌∙◌}
use Rattle.ps_disco.specs.Held.{children_at}
use Rattle.ps_disco.proofs.Places.{entries-more}
use Rattle.ps_disco.proofs.held.entries_at.Goals as goal

pub loop-place-preserved : goal.loop-place-preserved
loop-place-preserved c =
    let jid = c.args.jid.now in
    let rows = c.args.tables.now.nodes.rows in
    let places = c.args.places.now in
    let at = c.loop-place.place-index in
    c.in_ok-add_place.ensures
    ∙ (ap (λ k. k ++ children_at jid (get_or places at 0) rows) c.loop-place.invariant ∙ sym (entries-more jid places at rows c.loop-place-test.true))
