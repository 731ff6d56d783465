use Rattle.ps_config.proofs.Again.{config-again}
use Rattle.ps_config.proofs.laws.printed_config_reads_back.Goals as goal

pub returns : goal.returns
returns c = config-again
