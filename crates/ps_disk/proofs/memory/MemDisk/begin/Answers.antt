use Rattle.std.proofs.Common.{arith}
use Rattle.ps_disk.proofs.FilledBytes.{rises_further}
use Rattle.ps_disk.proofs.memory.MemDisk.begin.Goals as goal

pub invariant_of-self : goal.invariant_of-self
invariant_of-self c = record {
  seen = c.self.invariant.seen;
  each = c.self.invariant.each;
  rises = rises_further 0 c.self.inside.kept.items c.self.inside.calls _ (omega arith) c.self.invariant.rises;
}

pub invariant_of-self-else-contains : goal.invariant_of-self-else-contains
invariant_of-self-else-contains c = record {
  seen = c.self.invariant.seen;
  each = c.self.invariant.each;
  rises = rises_further 0 c.self.inside.kept.items c.self.inside.calls _ (omega arith) c.self.invariant.rises;
}
