use Rattle.std.proofs.Common.{sym, subst}
use Rattle.ps_twin.specs.Seats.{AreAll}
use Rattle.ps_hall.specs.Closed.{HasClosed}
use Rattle.ps_hall.proofs.Gathering.{are_all}
use Rattle.ps_hall.proofs.hall.Hall.close.Goals as goal

pub take_apart-requires : goal.take_apart-requires
take_apart-requires g c = subst (λ l. AreAll c.args.self.twin l) (sym c.gather.ensures) (are_all g.B.Opening.origin c.args.self.twin c.args.passes.items c.args.self.two c.requires)

pub returns : goal.returns
returns g c = subst (λ l. HasClosed g.B.Opening.origin c.take_apart.result.0 c.take_apart.result.1 l) c.gather.ensures c.take_apart.ensures
