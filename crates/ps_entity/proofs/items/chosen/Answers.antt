use Rattle.std.proofs.Common.{◌≡◌, true, false, length, rules, subst, ap, ◌∙◌}
use Rattle.std.specs.Prelude.{◌==◌, IfOk}
use Rattle.ps_types.specs.Items.{items_of}
use Rattle.ps_items.specs.Chosen.{items_named}
use Rattle.ps_rows.specs.Newest.{newest_of}
use Rattle.ps_entity.proofs.Chosen.{all_chosen, named_chosen}
use Rattle.ps_entity.proofs.items.chosen.Goals as goal

pub returns-then-is_empty : goal.returns-then-is_empty
returns-then-is_empty c =
    let none : (length c.args.ids.now == 0) ≡ true = search rules in
    let all = ap (λ n. newest_of n (items_of c.args.key.now c.args.items.now.rows)) c.most_of-most.ensures ∙ all_chosen c.args.max.now c.args.ids.now c.args.key.now c.args.items.now.rows none in
    subst (λ x. IfOk c.newest.result (λ rows. rows.items ≡ x)) all c.newest.ensures.rows

pub returns-else-is_empty : goal.returns-else-is_empty
returns-else-is_empty c =
    let some : (length c.args.ids.now == 0) ≡ false = search rules in
    let named = ap (λ n. newest_of n (items_named c.args.key.now c.args.ids.now c.args.items.now.rows)) c.most_of-most.ensures ∙ named_chosen c.args.max.now c.args.ids.now c.args.key.now
    c.args.items.now.rows some in
    subst (λ x. IfOk c.named.result (λ rows. rows.items ≡ x)) named c.named.ensures.rows
