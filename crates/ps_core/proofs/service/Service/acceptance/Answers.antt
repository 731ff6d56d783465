use Rattle.std.proofs.Common.{◌<◌, arith}
use Rattle.std.specs.Prelude.{◌^◌}
use Rattle.ps_core.proofs.Tallied.{fit-more}
use Rattle.ps_core.proofs.service.Service.acceptance.Goals as goal

pub acceptance_at-requires : goal.acceptance_at-requires
acceptance_at-requires c =
    let inside = c.self.inside in
    let less : inside.front.count < 2 ^ 64 = omega arith in
    record { fit = fit-more inside.front.count inside.tallies.rows less c.self.invariant.0.few }
