use Rattle.std.proofs.Common.{◌≡◌, List, ℕ, sym, subst, rules}
use Rattle.ps_disk.specs.Calls.{Recorded, start_of, state_after, outcome}
use Rattle.ps_disk.specs.Filled.{IsTornBy, EachBegins, Rises}
use Rattle.ps_disk.proofs.FilledBytes.{outcome_bytes}
use Rattle.ps_disk.proofs.memory.MemDisk.left_by_crash.Goals as goal

pub returns-in-Filled-torn-clause-bytes : goal.returns-in-Filled-torn-clause-bytes
returns-in-Filled-torn-clause-bytes c =
    let d = c.args.self.now in
    let which : c.in_ok-outcomes.outcomes.filled.items ≡ outcome c.args.torn (state_after c.args.calls d) = search rules in
    let rises = subst (λ (v : Recorded). Rises 0 v.kept c.self.inside.calls) c.self.view_is c.self.invariant.rises in
    let each = subst (λ (v : Recorded). EachBegins (start_of v.start) v.kept) c.self.view_is c.self.invariant.each in
    subst (λ (l : List ℕ). IsTornBy c.args.torn (state_after c.args.calls d) l) (sym which) (outcome_bytes c.args.torn c.args.calls 0 c.self.inside.calls d rises each)
