use Rattle.std.proofs.Common.{List, ℕ, sym, subst}
use Rattle.ps_types.specs.declared.jid.Jid.{Jid}
use Rattle.ps_fanout.proofs.Placed.{Placing, placing-begins, placing-on}
use Rattle.ps_fanout.proofs.order.by_text.Goals as goal

pub loop-who-init : goal.loop-who-init
loop-who-init c = subst (λ (es : List (List ℕ × Jid)). Placing c.args.whos.items c.args.whos.items es) (sym c.new-map.ensures.empty) (placing-begins c.args.whos.items c.requires.addresses)

pub loop-who-preserved-in_ok-insert : goal.loop-who-preserved-in_ok-insert
loop-who-preserved-in_ok-insert c =
    placing-on c.args.whos.items c.loop-who.whos.items c.pop.new.self.items c.loop-who.map.entries c.insert.new.self.entries c.in-Some.who c.in_ok-text.text c.loop-who.invariant
    c.in-Some.ensures.items
    c.in_ok-text.ensures c.in_ok-insert.ensures.entries

pub loop-who-preserved : goal.loop-who-preserved
loop-who-preserved c =
    placing-on c.args.whos.items c.loop-who.whos.items c.pop.new.self.items c.loop-who.map.entries c.insert.new.self.entries c.in-Some.who c.in_ok-text.text c.loop-who.invariant
    c.in-Some.ensures.items
    c.in_ok-text.ensures c.in_ok-insert.ensures.entries
