use Rattle.ps_fanout.specs.Parts.{Joins}
use Rattle.ps_fanout.proofs.parts.joined.Given as goal

abbrev pub invariant-loop-part : goal.invariant-loop-part
invariant-loop-part l = Joins l.yielded l.all.items
