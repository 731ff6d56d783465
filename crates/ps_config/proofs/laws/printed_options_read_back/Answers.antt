use Rattle.ps_config.proofs.Again.{options-again}
use Rattle.ps_config.proofs.laws.printed_options_read_back.Goals as goal

pub returns : goal.returns
returns c = options-again
