use Rattle.ps_io.proofs.Openings.{same_left}
use Rattle.ps_io.proofs.mem_world.MemWorldWorld.give_back_disk.Goals as goal

pub returns-clause-lefts : goal.returns-clause-lefts
returns-clause-lefts c = λ n other. same_left _ _ (c.give_back.ensures.others n other)
