use Rattle.std.proofs.Common.{◌≡◌, subst}
use Rattle.ps_request.specs.Heads.{head_view}
use Rattle.ps_request.specs.Taking.{taken_of, taken_view}
use Rattle.ps_request.specs.declared.taking.TakenTree.{TakenTree}
use Rattle.ps_core.proofs.Named.{denied_named}
use Rattle.ps_core.proofs.taking.found_in.Goals as goal

pub returns-in-Denied-clause-named : goal.returns-in-Denied-clause-named
returns-in-Denied-clause-named c =
    let e = subst (λ (x : TakenTree). taken_view c.args.tree x ≡ taken_of c.args.host.now c.args.service.now c.args.tree) c.in-Denied.is c.requires in
    denied_named c.args.host.now c.args.service.now c.args.tree (head_view c.in-Denied.head) c.in-Denied.why c.know.ensures e
