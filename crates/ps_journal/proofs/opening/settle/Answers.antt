use Rattle.std.proofs.Common.{◌≡◌, ◌⊎◌, inl, inr, ℕ, List, ◌∙◌, subst}
use Rattle.ps_disk.specs.Disk.{MayLeave}
use Rattle.ps_disk.proofs.Moments.{started, goes_on, then_on}
use Rattle.ps_disk.proofs.TornWrites.{only_synced}
use Rattle.ps_journal.proofs.opening.settle.Goals as goal

pub returns-in-Ok-clause-any_moment : goal.returns-in-Ok-clause-any_moment
returns-in-Ok-clause-any_moment g c tells =
    let D = g.D.Disk in
    let old = c.args.disk.now in
    let mid = c.sync.new.self in
    let P = λ (f : List ℕ). MayLeave (D.synced old) (D.written old) f ⊎ (f ≡ D.seen old) in
    let kept = c.in-Ok.ensures.ok tells in
    let same = λ (f : List ℕ) (leaves : MayLeave (D.synced mid) (D.written mid) f). only_synced (D.synced mid) f (subst (λ (w : List (ℕ × ℕ)). MayLeave (D.synced mid) w f) kept.1 leaves) ∙ kept.0 in
    let at_start = started D.moment D.left_since old P (λ f left. inl (g.met.D.Disk.only_now old f left)) in
    let synced = goes_on D.moment D.left_since old old mid P _ at_start (c.sync.ensures.time tells) (λ f now. inr (same f now)) in
    then_on D.moment D.left_since old mid c.read_store.new.disk P _ P synced (c.read_store.ensures.reads.time tells) (λ f before. before) (λ f now. inr (same f now))
