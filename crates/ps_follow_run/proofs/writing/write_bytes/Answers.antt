use Rattle.ps_wire.proofs.Written.{stays}
use Rattle.ps_follow_run.proofs.writing.write_bytes.Goals as goal

pub returns-in_err-flush-clause-part : goal.returns-in_err-flush-clause-part
returns-in_err-flush-clause-part g c = stays _ _ _ _ c.write_whole.ensures.part c.flush.ensures.bytes

pub returns-clause-part : goal.returns-clause-part
returns-clause-part g c = stays _ _ _ _ c.write_whole.ensures.part c.flush.ensures.bytes
