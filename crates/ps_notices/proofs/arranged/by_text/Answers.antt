use Rattle.std.proofs.Common.{List, ℕ, sym, subst, ◌∙◌}
use Rattle.ps_types.specs.Tree.{Tree}
use Rattle.ps_types.specs.declared.jid.Jid.{Jid}
use Rattle.ps_notices.proofs.Placed.{Placing, placing-begins, placing-on}
use Rattle.ps_notices.proofs.arranged.by_text.Goals as goal

pub loop-told-init : goal.loop-told-init
loop-told-init c =
    subst (λ (es : List ((List ℕ × ℕ) × (Jid × Tree))). Placing c.args.all.items c.args.all.items es) (sym c.new-map.ensures.empty) (placing-begins c.args.all.items)

pub loop-told-preserved-in_ok-insert : goal.loop-told-preserved-in_ok-insert
loop-told-preserved-in_ok-insert c =
    placing-on c.args.all.items c.loop-told.all.items c.pop.new.self.items c.loop-told.map.entries c.insert.new.self.entries c.in-Some.told c.in_ok-text.text c.len-turn.result
    c.loop-told.invariant c.in-Some.ensures.items c.in_ok-text.ensures (c.len-turn.ensures ∙ c.pop.new.self.ok.0) c.in_ok-insert.ensures.entries

pub loop-told-preserved-in_ok-insert-2 : goal.loop-told-preserved-in_ok-insert-2
loop-told-preserved-in_ok-insert-2 c =
    placing-on c.args.all.items c.loop-told.all.items c.pop.new.self.items c.loop-told.map.entries c.insert.new.self.entries c.in-Some.told c.in_ok-text.text c.len-turn.result
    c.loop-told.invariant c.in-Some.ensures.items c.in_ok-text.ensures (c.len-turn.ensures ∙ c.pop.new.self.ok.0) c.in_ok-insert.ensures.entries

pub loop-told-preserved-in_ok-insert-3 : goal.loop-told-preserved-in_ok-insert-3
loop-told-preserved-in_ok-insert-3 c =
    placing-on c.args.all.items c.loop-told.all.items c.pop.new.self.items c.loop-told.map.entries c.insert.new.self.entries c.in-Some.told c.in_ok-text.text c.len-turn.result
    c.loop-told.invariant c.in-Some.ensures.items c.in_ok-text.ensures (c.len-turn.ensures ∙ c.pop.new.self.ok.0) c.in_ok-insert.ensures.entries

pub loop-told-preserved : goal.loop-told-preserved
loop-told-preserved c =
    placing-on c.args.all.items c.loop-told.all.items c.pop.new.self.items c.loop-told.map.entries c.insert.new.self.entries c.in-Some.told c.in_ok-text.text c.len-turn.result
    c.loop-told.invariant c.in-Some.ensures.items c.in_ok-text.ensures (c.len-turn.ensures ∙ c.pop.new.self.ok.0) c.in_ok-insert.ensures.entries
