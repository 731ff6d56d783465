use Rattle.ps_types.proofs.Lines.{lines_of_written}
use Rattle.ps_wire.proofs.laws.written_lines_read_back.Goals as goal

pub returns : goal.returns
returns c = lines_of_written
