use Rattle.std.proofs.Common.{◌≡◌, length}
use Rattle.ps_args.specs.Words.{streams_of}
use Rattle.ps_args.proofs.Cut.{joined}
use Rattle.ps_args.proofs.words.read_streams.Given as goal

abbrev pub invariant-loop-rest : goal.invariant-loop-rest
invariant-loop-rest l = streams_of l.words ≡ joined l.streams (streams_of l.rest)

abbrev pub decreases-loop-rest : goal.decreases-loop-rest
decreases-loop-rest l = length l.rest
