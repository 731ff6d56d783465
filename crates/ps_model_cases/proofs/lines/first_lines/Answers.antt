use Rattle.ps_model_cases.proofs.LinesHold.{first-lines}
use Rattle.ps_model_cases.proofs.lines.first_lines.Goals as goal

pub returns : goal.returns
returns c = first-lines
