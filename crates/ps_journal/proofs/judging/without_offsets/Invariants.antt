use Rattle.std.proofs.Common.{◌≡◌, map}
use Rattle.ps_journal.proofs.judging.without_offsets.Given as goal

abbrev pub invariant-loop-entry : goal.invariant-loop-entry
invariant-loop-entry l = l.entries.items ≡ map (λ p. p.entry) l.yielded
