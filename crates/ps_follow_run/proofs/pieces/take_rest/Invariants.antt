use Rattle.std.proofs.Common.{◌≤◌, ◌+◌, ◌-◌, ◌^◌, cond, List, ℕ}
use Rattle.ps_follow_run.specs.Pieces.{HasBegun, HasTaken}
use Rattle.ps_follow_run.proofs.Resting.{Rests}
use Rattle.ps_follow_run.proofs.pieces.take_rest.Given as goal

abbrev pub invariant-rest : goal.invariant-rest
invariant-rest g l = record {
  begun : HasBegun l.taking (g.F.Source.left l.feed);
  rests : (bytes : List ℕ) → HasTaken l.initial.taking bytes (g.F.Source.left l.initial.feed) → Rests l.initial.taking l.taking bytes (g.F.Source.left l.initial.feed) (g.F.Source.left l.feed);
  later : g.F.Source.faults l.initial.feed ≤ g.F.Source.faults l.feed;
}

abbrev pub decreases-rest : goal.decreases-rest
decreases-rest g l = (2 ^ 40 - l.taking.given) + cond l.taking.ended 0 1
