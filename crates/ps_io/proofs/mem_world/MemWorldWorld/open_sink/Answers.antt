use Rattle.std.proofs.Common.{ap, ◌∙◌}
use Rattle.ps_io.proofs.Openings.{failing_cause}
use Rattle.ps_io.proofs.mem_world.MemWorldWorld.open_sink.Goals as goal

pub returns-in-None-clause-cause : goal.returns-in-None-clause-cause
returns-in-None-clause-cause c =
    failing_cause _ c.start_opening.new.self.faults _ _ c.in_ok-start_opening.ensures.none.1 c.fail_opening.ensures.later (ap (λ (w : _). w.faults) c.fail_opening.ensures.counts)
    c.fail_opening.ensures.failed
