use Rattle.std.proofs.Common.{◌≡◌, ℕ, List, Option, length, rules, ap, sym, ◌∙◌}
use Rattle.std.proofs.lemmas.Fn.{filter_same}
use Rattle.ps_rows.specs.Standing.{marked_by, marks_of, packed, standing}
use Rattle.ps_rows.proofs.Packed.{marks-packed, standing-packed}
use Rattle.ps_rows.specs.declared.index.Index.TheVariants.{Node}
use Rattle.ps_rows.proofs.Kept.{pure_packed}
use Rattle.ps_rows.proofs.slots.Slots.pack.Goals as goal

one : {R : Type 0} (by : R → ℕ) (old new seen : List (Option R)) (marks : List (Option ℕ)) → new ≡ packed old → seen ≡ new → marks ≡ marks_of by seen → marks ≡ marked_by by new
one by old new seen marks n s m = m ∙ (ap (marks_of by) (s ∙ n) ∙ (marks-packed by old ∙ ap (marked_by by) (sym n)))

pub returns-clause-rows : goal.returns-clause-rows
returns-clause-rows g c =
    let kept : c.retain.new.self.items ≡ packed c.self.inside.slots.items = filter_same _ _ _ (λ x b f' k. search rules) _ _ c.retain.ensures.filtered in
    kept ∙ ap (λ t. packed t.rows) c.self.view_is

pub invariant_of-self : goal.invariant_of-self
invariant_of-self g c =
    let kept : c.retain.new.self.items ≡ packed c.self.inside.slots.items = filter_same _ _ _ (λ x b f' k. search rules) _ _ c.retain.ensures.filtered in
    record {
      key = one _ c.self.inside.slots.items _ _ _ kept c.deref.ensures.value c.mark.ensures.marks;
      node = one _ c.self.inside.slots.items _ _ _ kept c.deref-2.ensures.value c.mark-2.ensures.marks;
      bare = one _ c.self.inside.slots.items _ _ _ kept c.deref-3.ensures.value c.mark-3.ensures.marks;
      stand = c.self.invariant.stand ∙ (ap length (sym (standing-packed c.self.inside.slots.items)) ∙ ap (λ x. length (standing x)) (sym kept));
      kept = pure_packed g.R.Row.kin (g.R.Row.by c.self.inside.seed Node) g.met.R.Row.kin_is c.self.inside.slots.items _ _ kept c.self.invariant.kept;
    }
