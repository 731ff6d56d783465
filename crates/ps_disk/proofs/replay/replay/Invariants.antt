use Rattle.std.proofs.Common.{take}
use Rattle.std.specs.Prelude.{nat_le, filter}
use Rattle.ps_disk.specs.Calls.{start_of, after_calls}
use Rattle.ps_disk.specs.Outcomes.{AreOutcomes}
use Rattle.ps_disk.proofs.replay.replay.Given as goal

abbrev pub invariant-calls : goal.invariant-calls
invariant-calls l = AreOutcomes l.byte (after_calls (start_of l.start) (filter (λ one. nat_le one.number l.calls) (take l.one-index l.kept.items))) l.outcomes
