use Rattle.std.proofs.Common.{◌≡◌, ◌⊎◌, inl, inr, ℕ, List, ◌∷◌, length, sym, ◌∙◌, subst}
use Rattle.ps_disk.specs.Disk.{MayLeave}
use Rattle.ps_disk.proofs.Moments.{started, goes_on}
use Rattle.ps_disk.specs.SeenLeft.{grows}
use Rattle.ps_disk.proofs.TornWrites.{after_write, only_synced}
use Rattle.ps_disk.proofs.kept.write_kept.Goals as goal

pub returns-in-Ok-sync-clause-during : goal.returns-in-Ok-sync-clause-during
returns-in-Ok-sync-clause-during g c tells =
    let D = g.D.Disk in
    let old = c.args.disk.now in
    let range : ℕ × ℕ = (c.args.at, length c.args.piece.now) in
    let P = λ (f : List ℕ). MayLeave (D.synced old) (range ∷ D.written old) f ⊎ (f ≡ D.seen c.sync.new.self) in
    let at_start = started D.moment D.left_since old P (λ f left. inl (grows (D.synced old) f (D.written old) range (g.met.D.Disk.only_now old f left))) in
    let behind = goes_on D.moment D.left_since old old c.write_at.new.self P _ at_start (c.write_at.ensures.time tells)
    (λ f now. inl (after_write (D.synced old) _ (D.written old) _ range f (c.write_at.ensures.synced tells) (c.write_at.ensures.maybe tells) now)) in
    let kept = c.in-Ok-sync.ensures.ok tells in
    goes_on D.moment D.left_since old c.write_at.new.self c.sync.new.self P _ behind (c.sync.ensures.time tells)
    (λ f now. inr (only_synced (D.synced c.sync.new.self) f (subst (λ (w : List (ℕ × ℕ)). MayLeave (D.synced c.sync.new.self) w f) kept.1 now) ∙ kept.0 ∙ sym (c.sync.ensures.seen tells)))
