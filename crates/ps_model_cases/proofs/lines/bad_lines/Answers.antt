use Rattle.ps_model_cases.proofs.LinesHold.{are-refused}
use Rattle.ps_model_cases.proofs.lines.bad_lines.Goals as goal

pub returns : goal.returns
returns c = are-refused
