use Rattle.std.proofs.Common.{ℕ, ◌==◌, ap, sym, ◌∙◌}
use Rattle.std.specs.Prelude.{nat_le}
use Rattle.ps_types.specs.Items.{is_item_at, item_count}
use Rattle.ps_owner.proofs.Keeping.{kept-same, gone-same}
use Rattle.ps_owner.proofs.config_set.items_stay.Goals as goal

pub returns-then-config : goal.returns-then-config
returns-then-config c =
    let items = c.args.tables.now.items.rows in
    let key = c.args.key.now in
    let most = c.args.config.now.max_items in
    let persist = c.if-config.true in
    rw persist (ap (λ (n : ℕ). nat_le n c.get.result) c.count.ensures.count ∙ ap (λ (m : ℕ). nat_le (item_count key items) m) c.get.ensures.items ∙ sym (kept-same (is_item_at key) most items))

pub returns-else-config : goal.returns-else-config
returns-else-config c =
    let items = c.args.tables.now.items.rows in
    let key = c.args.key.now in
    let persist = c.if-config.false in
    rw persist (ap (λ (n : ℕ). n == 0) c.count-else-config.ensures.count ∙ sym (gone-same (is_item_at key) items))
