use Rattle.std.proofs.Common.{◌≤◌, length}
use Rattle.ps_status.specs.Telling.{OnlyTells}
use Rattle.ps_status.proofs.Fronts.{SoFar}
use Rattle.ps_status.proofs.telling.report_lines.Given as goal

abbrev pub invariant-loop-line : goal.invariant-loop-line
invariant-loop-line g l =
    SoFar l.lines l.rest (g.W.World.reported l.fn.world) (g.W.World.reported l.world)
    × OnlyTells g.W.World l.fn.world l.world × (g.W.World.faults l.fn.world ≤ g.W.World.faults l.world)

abbrev pub decreases-loop-line : goal.decreases-loop-line
decreases-loop-line g l = length l.rest
