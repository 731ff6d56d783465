use Rattle.std.proofs.Common.{rules, ◌≡◌, ap, map, ◌∙◌}
use Rattle.ps_types.specs.Items.{items_of}
use Rattle.ps_types.specs.Shape.{holding}
use Rattle.ps_disco.specs.Entries.{Hold, published_at}
use Rattle.ps_disco.proofs.listed.items_at.Goals as goal

pub returns : goal.returns
returns c =
    let items = items_of c.args.key.now c.args.tables.now.items.rows in
    let kids : Hold c.in_ok-kids.kids (map (published_at c.args.jid.now) c.in_ok-rows.rows.items) = search rules in
    let rows : c.in_ok-rows.rows.items ≡ items = search rules in
    kids ∙ (ap (λ rs. holding (map (published_at c.args.jid.now) rs)) rows ∙ ap (λ j. holding (map (published_at j) items)) c.requires.jid)
