use Rattle.std.proofs.Common.{◌-◌, ◌+◌, ◌≤◌, drop, ◌∙◌, ap, arith, length-take, length}
use Rattle.ps_wire.proofs.HeldLemmas.{drop_front_is}
use Rattle.ps_wire.proofs.held.Held.drop_front.Goals as goal

pub returns : goal.returns
returns c =
    let h = c.self.inside in
    let fits : c.args.count + h.from ≤ h.to = omega (arith, c.requires, ap length c.self.view_is, length-take (h.to - h.from) (drop h.from h.room.items), c.self.invariant) in
    drop_front_is h.room.items h.from h.to c.args.count fits ∙ ap (λ l. drop c.args.count l) c.self.view_is
