use Rattle.std.proofs.Common.{◌≡◌, List, sym, ◌∙◌, ap, subst}
use Rattle.ps_disk.specs.Calls.{Recorded, State, start_of, after_calls, state_of, step}
use Rattle.ps_disk.specs.Filled.{BeginsWithin}
use Rattle.ps_disk.specs.declared.replay.Kept.{Kept}
use Rattle.ps_disk.proofs.FilledBytes.{begins_push, rises_push}
use Rattle.ps_disk.proofs.OneMore.{after_push}
use Rattle.ps_disk.proofs.memory.MemDisk.keep.Goals as goal

pub invariant_of-self : goal.invariant_of-self
invariant_of-self c =
    let begun = start_of c.self.inside.start.items in
    let before = c.self.inside.kept.items in
    let one : Kept = record { number = c.self.inside.calls; call = c.args.call } in
    let same = subst (λ (v : Recorded). (step (state_of v) c.args.call).seen ≡ (state_of v).seen) (sym c.self.view_is) c.requires.same in
    let within = subst (λ (v : Recorded). BeginsWithin (state_of v) c.args.call) (sym c.self.view_is) c.requires.within in
    let pushed = ap (λ (l : List Kept). after_calls begun l) c.in-Ok.ensures.items ∙ after_push begun before one in
    record {
      seen = c.self.invariant.seen ∙ sym same ∙ sym (ap (λ (s : State). s.seen) pushed);
      each = rw c.in-Ok.ensures.items (begins_push begun before one c.self.invariant.each within);
      rises = rw c.in-Ok.ensures.items (rises_push 0 before one c.self.invariant.rises);
    }
