use Rattle.std.proofs.Common.{ap, sym, subst, ◌∙◌}
use Rattle.ps_rows.specs.Standing.{standing}
use Rattle.ps_rows.proofs.Packed.{standing-packed}
use Rattle.ps_nodes.specs.Kept.{AreFull}
use Rattle.ps_nodes.proofs.Cuts.{packed-full}
use Rattle.ps_nodes.proofs.entries.filled.Goals as goal

pub returns-clause-rows : goal.returns-clause-rows
returns-clause-rows c = ap standing c.pack.ensures.rows ∙ standing-packed c.args.slots.rows

pub returns-clause-full : goal.returns-clause-full
returns-clause-full c = subst AreFull (sym c.pack.ensures.rows) (packed-full c.args.slots.rows)
