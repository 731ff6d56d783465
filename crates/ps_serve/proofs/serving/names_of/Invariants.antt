use Rattle.std.proofs.Common.{◌≡◌, take}
use Rattle.ps_args.specs.Words.{hosts_of}
use Rattle.ps_serve.proofs.serving.names_of.Given as goal

abbrev pub invariant-loop-stream : goal.invariant-loop-stream
invariant-loop-stream l = l.hosts.items ≡ hosts_of (take l.stream-index l.streams)
