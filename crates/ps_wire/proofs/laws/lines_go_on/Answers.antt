use Rattle.ps_types.proofs.Lines.{lines_of_first}
use Rattle.ps_wire.proofs.laws.lines_go_on.Goals as goal

pub returns : goal.returns
returns c = lines_of_first
