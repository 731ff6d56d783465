use Rattle.ps_io.specs.declared.world.Kind.TheVariants.{Store}
use Rattle.ps_endpoints.proofs.Each.{no-store}
use Rattle.ps_endpoints.proofs.ports.give_back_ports.Goals as goal

pub returns-clause-stay : goal.returns-clause-stay
returns-clause-stay g c = λ n. c.give_back_each.ensures.others.stay Store n (no-store n c.args.streams.now)
