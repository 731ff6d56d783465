use Rattle.ps_model.proofs.LineLaws.{line-read}
use Rattle.ps_model.proofs.request_laws.line_is_read.Goals as goal

pub returns : goal.returns
returns c = line-read
