use Rattle.std.proofs.Common.{List, subst}
use Rattle.ps_args.specs.declared.command.Stream.{Stream}
use Rattle.ps_endpoints.specs.Ports.{AreApart, AreOpen}
use Rattle.ps_endpoints.proofs.Each.{rest-open}
use Rattle.ps_endpoints.proofs.ports.+give_back_each.Goals as goal

pub give_back_each-requires-clause-open : goal.give_back_each-requires-clause-open
give_back_each-requires-clause-open g t c κs within =
    let apart = subst AreApart c.in-Some.ensures.cases.0 c.requires.apart in
    let open_before = subst (λ (l : List Stream). AreOpen g.W.World c.args.world.now l) c.in-Some.ensures.cases.0 c.requires.open in
    rest-open g.W.World c.in-Some.stream.now c.in-Some.others.now c.args.world.now c.give_back_port.new.world
    apart.0 apart.1 apart.2 c.give_back_port.ensures.others open_before.1
