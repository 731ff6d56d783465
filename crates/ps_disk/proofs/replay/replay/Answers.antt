use Rattle.std.proofs.Common.{◌≡◌, Bool, true, false, List, get_or, take, sym, ◌∙◌, ap, subst, cond, rules, arith}
use Rattle.std.specs.Prelude.{nat_le, filter}
use Rattle.ps_disk.specs.Calls.{State, start_of, after_calls, step}
use Rattle.ps_disk.specs.Outcomes.{AreOutcomes}
use Rattle.ps_disk.specs.declared.replay.Kept.{Kept}
use Rattle.ps_disk.specs.declared.replay.Outcomes.{Outcomes}
use Rattle.ps_disk.proofs.OneMore.{one_further}
use Rattle.ps_disk.proofs.replay.replay.Goals as goal
use Rattle.ps_disk.proofs.replay.replay.Goals.{then-one-calls+in_ok-outcomes, else-one-calls}

pub calls-preserved : goal.calls-preserved
calls-preserved c =
    let p = λ (one : Kept). nat_le one.number c.args.calls in
    let one = c.one-item.result in
    let all = c.args.kept.now.items in
    let before = after_calls (start_of c.args.start.now) (filter p (take c.calls.one-index all)) in
    let is = c.one-item.is ∙ ap (λ (l : List Kept). get_or l c.calls.one-index one) c.deref-one-items.ensures.value in
    let next = one_further (start_of c.args.start.now) p all c.calls.one-index one (omega (arith, c.deref-one-items.ensures.len)) is in
    let to = λ (b : Bool) (passes : p one ≡ b) (o : Outcomes) (are : AreOutcomes c.args.byte (cond b (step before one.call) before) o).
    subst (λ (s : State). AreOutcomes c.args.byte s o) (sym (next ∙ ap (λ (x : Bool). cond x (step before one.call) before) passes)) are in
    elim c.if-one-calls.branch [
      | then-one-calls+in_ok-outcomes w ↦
          let passes : p one ≡ true = search rules in
          to true passes c.if-one-calls.outcomes (subst (λ (o : Outcomes). AreOutcomes c.args.byte (step before one.call) o) (sym w.outcomes-is) (w.in_ok-outcomes.ensures before c.calls.invariant))
      | else-one-calls w ↦
          let fails : p one ≡ false = search rules in
          to false fails c.if-one-calls.outcomes (subst (λ (o : Outcomes). AreOutcomes c.args.byte before o) (sym w.outcomes-is) c.calls.invariant)
    ]
