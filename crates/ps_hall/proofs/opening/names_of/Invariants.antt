use Rattle.std.proofs.Common.{◌≡◌, map, take}
use Rattle.ps_hall.specs.Passes.{named}
use Rattle.ps_hall.proofs.opening.names_of.Given as goal

abbrev pub invariant-loop-host : goal.invariant-loop-host
invariant-loop-host l = l.names.items ≡ map named (take l.host-index l.hosts)
