use Rattle.ps_core.proofs.Followed.{copied-wants}
use Rattle.ps_core.proofs.service.renew.Goals as goal

pub returns-clause-wants : goal.returns-clause-wants
returns-clause-wants c =
    let back = c.in_ok-back in
    copied-wants c.args.front.now back.field-0 back.ensures.state back.ensures.wants c.requires.wants
