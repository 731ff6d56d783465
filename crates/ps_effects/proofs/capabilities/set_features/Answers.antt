use Rattle.ps_effects.proofs.Features.{features-set}
use Rattle.ps_effects.proofs.capabilities.set_features.Goals as goal

pub returns : goal.returns
returns c =
    features-set c.args.who.now c.args.caps.now c.args.features _ c.args.presence.now.rows c.reserve.new.self.rows c.set.new.self.rows c.in_ok-row.ensures c.reserve.ensures.rows c.requires.caps
    c.set.ensures.rows
