use Rattle.std.proofs.Common.{◌≡◌, ◌+◌, true, length, arith, refl, ap, ◌∙◌}
use Rattle.ps_rehearse_lines.specs.Counted.{one_if}
use Rattle.ps_rehearse.specs.Entries.{is_made}
use Rattle.ps_rehearse.proofs.Making.{so-few, so-more}
use Rattle.ps_rehearse.proofs.entries.count_made.Goals as goal

pub overflow_add-commits : goal.overflow_add-commits
overflow_add-commits c =
    let few = (so-few c.args.placed.now c.loop-one.one-index c.loop-one.commits c.loop-one.handed c.loop-one.invariant).0 in
    let one = c.one_if-commits.ensures.few in
    omega (arith, few, one)

pub overflow_add-handed : goal.overflow_add-handed
overflow_add-handed c =
    let few = (so-few c.args.placed.now c.loop-one.one-index c.loop-one.commits c.loop-one.handed c.loop-one.invariant).1 in
    let one = c.one_if-handed.ensures.few in
    omega (arith, few, one)

pub loop-one-preserved : goal.loop-one-preserved
loop-one-preserved c =
    let is : is_made c.one-item.result.entry ≡ true = cc in
    so-more c.args.placed.now c.loop-one.one-index c.one-item.result c.loop-one.commits c.loop-one.handed _ _ c.loop-one-test.true c.one-item.is is
    (ap (λ n. c.loop-one.commits + n) (c.one_if-commits.ensures.value ∙ ap one_if c.is_change.ensures))
    (ap (λ n. c.loop-one.handed + n) (c.one_if-handed.ensures.value ∙ ap one_if c.is_handed.ensures)) c.loop-one.invariant
