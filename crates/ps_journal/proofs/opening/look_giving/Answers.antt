use Rattle.std.proofs.Common.{◌≡◌, ◌⊎◌, inl, inr, List, ℕ, sym, subst}
use Rattle.ps_disk.specs.Disk.{LeavesOnly, MayLeave}
use Rattle.ps_disk.proofs.Moments.{weaker}
use Rattle.ps_journal.specs.Judged.{IsJudgement}
use Rattle.ps_journal.specs.Pieces.{IsSound}
use Rattle.ps_journal.proofs.Opens.{bad_stopped}
use Rattle.ps_journal.proofs.opening.look_giving.Goals as goal

-- what is seen is one of the contents that a crash may leave
only-old : {D : Type 0} (moment : D → ℕ) (left_since : D → ℕ → List ℕ → Type 0) (old new : D) (seen synced : List ℕ) (written : List (ℕ × ℕ)) → MayLeave synced written seen
    → LeavesOnly moment left_since old new (λ c. MayLeave synced written c ⊎ (c ≡ seen)) → LeavesOnly moment left_since old new (MayLeave synced written)
only-old moment left_since old new seen synced written may run =
    weaker moment left_since old new _ (MayLeave synced written) run
    (λ c left. elim left [ inl was ↦ was | inr is ↦ subst (MayLeave synced written) (sym is) may ])

pub returns-in-Bad-clause-stopped : goal.returns-in-Bad-clause-stopped
returns-in-Bad-clause-stopped g c tells =
    let t = g.T.Taker in
    let taken = t.stands c.args.taker.now c.settle.new.taker in
    let seen = g.D.Disk.seen c.args.disk.now in
    bad_stopped taken t.refused seen c.in-Bad.at c.new.result.items c.new.ensures (subst (IsJudgement taken t.refused seen) c.in-Bad.is (c.in-Ok.ensures.found tells))

pub returns-in-Stopped-clause-stopped : goal.returns-in-Stopped-clause-stopped
returns-in-Stopped-clause-stopped g c tells =
    let t = g.T.Taker in
    let taken = t.stands c.args.taker.now c.settle.new.taker in
    inr (inr (subst (IsJudgement taken t.refused (g.D.Disk.seen c.args.disk.now)) c.in-Stopped.is (c.in-Ok.ensures.found tells)))

pub returns-in-Stopped-clause-before : goal.returns-in-Stopped-clause-before
returns-in-Stopped-clause-before g c = subst (IsSound (g.T.Taker.stands c.args.taker.now c.settle.new.taker)) c.in-Stopped.is c.in-Ok.ensures.sound

pub returns-in-Begun-clause-each : goal.returns-in-Begun-clause-each
returns-in-Begun-clause-each g c = (subst (IsSound (g.T.Taker.stands c.args.taker.now c.settle.new.taker)) c.in-Begun.is c.in-Ok.ensures.sound).0

pub returns-in-Stopped-clause-any_moment : goal.returns-in-Stopped-clause-any_moment
returns-in-Stopped-clause-any_moment g c tells =
    let D = g.D.Disk in
    let old = c.args.disk.now in
    only-old D.moment D.left_since old c.settle.new.disk (D.seen old) (D.synced old) (D.written old) (g.met.D.Disk.seen_left old) (c.settle.ensures.any_moment tells)

pub returns-in-Begun-clause-any_moment : goal.returns-in-Begun-clause-any_moment
returns-in-Begun-clause-any_moment g c tells =
    let D = g.D.Disk in
    let old = c.args.disk.now in
    only-old D.moment D.left_since old c.settle.new.disk (D.seen old) (D.synced old) (D.written old) (g.met.D.Disk.seen_left old) (c.settle.ensures.any_moment tells)
