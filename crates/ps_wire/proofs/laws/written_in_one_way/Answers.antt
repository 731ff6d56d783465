use Rattle.ps_types.proofs.Lines.{written_is, written_one}
use Rattle.ps_wire.proofs.laws.written_in_one_way.Goals as goal

pub returns-clause-is : goal.returns-clause-is
returns-clause-is c = written_is

pub returns-clause-one : goal.returns-clause-one
returns-clause-one c = written_one
