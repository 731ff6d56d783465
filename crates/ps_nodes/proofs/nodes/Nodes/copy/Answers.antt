use Rattle.std.proofs.Common.{◌≡◌, ap, arith, rules, subst, sym, ◌∙◌}
use Rattle.ps_rows.specs.Standing.{standing}
use Rattle.ps_rows.proofs.Alike.{all_same}
use Rattle.ps_nodes.specs.Kept.{AreOnce}
use Rattle.ps_nodes.proofs.Cuts.{gaps-full}
use Rattle.ps_nodes.proofs.nodes.Nodes.copy.Goals as goal

pub invariant_of-result : goal.invariant_of-result
invariant_of-result c =
    let slots = c.filled-slots.result.rows in
    let same : standing slots ≡ standing c.self.inside.slots.rows = c.filled-slots.ensures.rows ∙ all_same _ (λ x y k. search rules) _ _ c.in_ok-copy.ensures.rows in
    record {
      names = c.in_ok-named.ensures.names;
      empty = c.in_ok-gaps.ensures.items ∙ sym (gaps-full 0 slots c.filled-slots.ensures.full);
      once = subst AreOnce (sym same) c.self.invariant.once;
      held = omega (arith, c.in_ok-gaps.ensures.exact, c.len.ensures.len);
    }

pub returns : goal.returns
returns c = record { rows = c.filled-slots.ensures.rows ∙ (all_same _ (λ x y k. search rules) _ _ c.in_ok-copy.ensures.rows ∙ ap (λ t. t.rows) c.self.view_is) }
