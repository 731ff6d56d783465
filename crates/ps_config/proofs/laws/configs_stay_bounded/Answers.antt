use Rattle.ps_config.proofs.Kept.{config-kept}
use Rattle.ps_config.proofs.laws.configs_stay_bounded.Goals as goal

pub returns-clause-read : goal.returns-clause-read
returns-clause-read c = config-kept
