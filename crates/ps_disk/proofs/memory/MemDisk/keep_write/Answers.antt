use Rattle.std.proofs.Common.{◌≡◌, ◌≤◌, length, List, ℕ, sym, ◌∙◌, ap, subst, rules}
use Rattle.ps_disk.specs.Calls.{Recorded, State, start_of, after_calls, state_of, over}
use Rattle.ps_disk.specs.declared.replay.Call.TheVariants.{Wrote}
use Rattle.ps_disk.specs.declared.replay.Kept.{Kept}
use Rattle.ps_disk.proofs.FilledBytes.{begins_push, rises_push}
use Rattle.ps_disk.proofs.OneMore.{after_push}
use Rattle.ps_disk.proofs.memory.MemDisk.keep_write.Goals as goal

pub invariant_of-self-2 : goal.invariant_of-self-2
invariant_of-self-2 c =
    let begun = start_of c.self.inside.start.items in
    let kept = c.self.inside.kept.items in
    let before = after_calls begun kept in
    let one : Kept = record { number = c.self.inside.calls; call = Wrote c.args.at c.from_vec.result } in
    let pushed = ap (λ (l : List Kept). after_calls begun l) c.in_ok-push.ensures.items ∙ after_push begun kept one in
    let bytes : c.from_vec.result ≡ c.args.piece.now = search rules in
    let within = subst (λ (v : Recorded). c.args.at ≤ length (state_of v).seen) (sym c.self.view_is) c.requires in
    record {
      seen =
          c.in_ok-next.ensures
          ∙ ap (λ (l : List ℕ). over l c.args.at c.args.piece.now) (c.deref.ensures.value ∙ c.self.invariant.seen)
          ∙ ap (λ (l : List ℕ). over before.seen c.args.at l) (sym bytes)
          ∙ sym (ap (λ (s : State). s.seen) pushed);
      each = rw c.in_ok-push.ensures.items (begins_push begun kept one c.self.invariant.each within);
      rises = rw c.in_ok-push.ensures.items (rises_push 0 kept one c.self.invariant.rises);
    }
