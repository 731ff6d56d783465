use Rattle.std.proofs.Common.{rules, ◌≡◌, ◌++◌, List, ap, ◌∙◌}
use Rattle.std.specs.Prelude.{filter}
use Rattle.ps_types.specs.declared.rows.NodeRow.{NodeRow}
use Rattle.ps_access.specs.Tables.{book_of}
use Rattle.ps_nodes.proofs.Places.{places-listed}
use Rattle.ps_nodes.specs.Places.{ArePlaces, rows_at}
use Rattle.ps_events.specs.Wanted.{is_asked_for, lasts}
use Rattle.ps_events.proofs.wanted.add_lasts.Goals as goal

pub returns : goal.returns
returns c =
    let who = c.args.who.now in
    let after = book_of c.args.after.now in
    let rows = c.args.after.now.nodes.rows in
    let asked = is_asked_for c.args.features.now in
    let keys = c.in_ok-places.places.keys in
    let told = c.args.told.now.items in
    let listed : c.in_ok-listed.listed.items ≡ keys = search rules in
    let are : ArePlaces asked rows keys = c.in_ok-places.ensures in
    let order = places-listed asked rows keys c.len-len.ensures.ordered are in
    let all : rows_at c.as_slice.result.now rows ≡ filter asked rows = ap (λ ps. rows_at ps rows) (c.as_slice.ensures.value ∙ listed) ∙ order in
    c.in_ok-add_lasts_at.ensures ∙ ap (λ (l : List NodeRow). told ++ lasts who after l) all
