use Rattle.std.proofs.Common.{◌≡◌, ◌+◌, ◌-◌, ◌^◌, ◌≤◌, cond}
use Rattle.std.specs.Prelude.{IsTrue, Contains}
use Rattle.ps_wire.specs.Reading.{rest_of, budget_of, LeavesOff, Gave, StandsStill, ReadNothing}
use Rattle.ps_wire.proofs.lines.Lines.read_line.Given as goal

abbrev pub invariant-pieces : goal.invariant-pieces
invariant-pieces g l =
    LeavesOff l.line (rest_of l.initial.self) (rest_of l.self) (budget_of l.initial.self) (budget_of l.self)
    × (l.self.stopped ≡ l.initial.self.stopped)
    × (g.S.Source.faults l.initial.self.source ≤ g.S.Source.faults l.self.source)
    × Gave (g.S.Source.left l.initial.self.source) (g.S.Source.left l.self.source) l.initial.self.given l.self.given
    × (Contains l.initial.self.held 10 → StandsStill l.initial.self l.self)
    × (IsTrue l.initial.self.ended → ReadNothing l.initial.self l.self)

abbrev pub decreases-pieces : goal.decreases-pieces
decreases-pieces g l = (2 ^ 40 - l.self.given) + cond l.self.ended 0 1
