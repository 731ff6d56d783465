use Rattle.std.proofs.Common.{◌≡◌, ◌≤◌, true, ℕ, zero, suc, List, [], ◌∷◌, Option, Some, None, refl, ap, arith, length, length-set, sym, ◌∙◌}
use Rattle.std.specs.Prelude.{is_some, slice_set}
use Rattle.ps_chains.specs.Marks.{mark_at}
use Rattle.ps_rows.specs.Standing.{marked_by, standing}
use Rattle.ps_rows.proofs.Marked.{marked-set}
use Rattle.ps_types.specs.declared.rows.NodeRow.{NodeRow}
use Rattle.ps_nodes.specs.Gaps.{empties}
use Rattle.ps_nodes.specs.Kept.{name_digest}
use Rattle.ps_nodes.proofs.Cuts.{gaps-count, gaps-rising, put-gap}
use Rattle.ps_nodes.proofs.Once.{once-gone}
use Rattle.ps_nodes.proofs.names.empty.Goals as goal

row : (o : Option NodeRow) → is_some o ≡ true → (row : NodeRow) × (o ≡ Some row)
row None h = cc
row (Some x) h = (x, refl)

-- where a row stands, not all places are empty
some : (slots : List (Option NodeRow)) (place : ℕ) (row : NodeRow) → mark_at slots place ≡ Some row → 1 ≤ length (standing slots)
some [] place row h = cc
some (None ∷ xs) zero row h = cc
some (Some x ∷ xs) place row h = omega arith
some (None ∷ xs) (suc place) row h = some xs place row h

pub put-requires : goal.put-requires
put-requires c =
    let slots = c.args.slots.now.rows in
    let kept = c.requires.kept in
    let here = row (mark_at slots c.args.place) c.requires.here in
    let all = gaps-count 0 slots in
    let gaps : length c.args.gaps.now.items ≡ length (empties 0 slots) = ap length kept.empty in
    let one = some slots c.args.place here.0 here.1 in
    record {
      rising = gaps-rising slots c.args.gaps.now.items kept.empty;
      room = omega (arith, all, gaps, one, kept.held, c.args.gaps.now.ok.0);
    }

pub returns-clause-kept : goal.returns-clause-kept
returns-clause-kept c =
    let slots = c.args.slots.now.rows in
    let kept = c.requires.kept in
    let here = row (mark_at slots c.args.place) c.requires.here in
    let seed = c.args.slots.now.seed in
    let same = ap length c.remove.ensures.rows ∙ length-set slots c.args.place None in
    record {
      names = c.remove-2.ensures.rows ∙ (ap (λ m. slice_set m c.args.place None) kept.names ∙ (sym (marked-set (name_digest seed) slots c.args.place None)
          ∙ (ap (marked_by (name_digest seed)) (sym c.remove.ensures.rows) ∙ ap (λ s. marked_by (name_digest s) c.remove.new.self.rows) (sym c.remove.ensures.seed))));
      empty = put-gap slots c.args.gaps.now.items c.put.new.gaps.items c.args.place here.0 kept.empty here.1 c.put.ensures.put ∙ ap (empties 0) (sym c.remove.ensures.rows);
      once = once-gone slots c.remove.new.self.rows c.args.place c.remove.ensures.rows kept.once;
      held = omega (arith, same, kept.held, c.put.ensures.room);
    }

pub returns-clause-room : goal.returns-clause-room
returns-clause-room c =
    let same = ap length c.remove.ensures.rows ∙ length-set c.args.slots.now.rows c.args.place None in
    omega (arith, same, c.remove.ensures.room, c.remove-2.ensures.room, c.put.ensures.room)
