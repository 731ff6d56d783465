use Rattle.std.proofs.Common.{List, ℕ, ◌∙◌, ap, subst, sym}
use Rattle.ps_journal.specs.Pieces.{IsHeld, extent_at}
use Rattle.ps_journal.proofs.Readings.{stride_held}
use Rattle.ps_journal.proofs.pieces.hold.Goals as goal

pub returns-in-Ok-reach-clause-tells : goal.returns-in-Ok-reach-clause-tells
returns-in-Ok-reach-clause-tells g c t =
    let D = g.D.Disk in
    let seen = D.seen c.args.disk.now in
    let first = c.in-Ok.ensures in
    let last = c.in-Ok-reach.ensures in
    let held = subst (λ (l : List ℕ). IsHeld D.tells l c.args.total c.args.at c.in-Ok-reach.piece) first.reads.same_seen last.held in
    stride_held D.tells seen c.args.total c.args.at c.in-Ok.piece c.in-Ok-reach.piece _ first.held held t (c.requires.total t) (first.reaches t) (c.extent-count.ensures ∙ ap extent_at c.behind.ensures) (last.reaches t)
