use Rattle.std.proofs.Common.{◌||◌, Bool, ap, ◌∙◌}
use Rattle.std.specs.Prelude.{slice_get}
use Rattle.ps_nodes.proofs.Naming.{named-places}
use Rattle.ps_nodes.specs.Named.{is_named}
use Rattle.ps_nodes.specs.Places.{is_place}
use Rattle.ps_rows.specs.Standing.{passes_at}
use Rattle.ps_events.proofs.named.add_named.Goals as goal

pub returns : goal.returns
returns c = λ at.
    let before = is_place at c.args.places.now.keys in
    let rows = c.args.nodes.now.rows in
    let found = c.as_slice.ensures.value ∙ c.in_ok-found.ensures.places in
    c.in_ok-put_all.ensures at
    ∙ (ap (λ ps. before || is_place at ps) found
    ∙ ap (λ (b : Bool). before || b) (named-places c.in_ok-name.name rows at ∙ ap (λ n. passes_at (is_named n) (slice_get rows at)) c.in_ok-name.ensures.value))
