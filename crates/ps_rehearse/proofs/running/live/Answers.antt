use Rattle.ps_rehearse.proofs.running.live.Goals as goal

pub returns-in-Ok-new : goal.returns-in-Ok-new
returns-in-Ok-new g c = record { size = c.serve-state.ensures.size; serves = c.serve-state.ensures.serves }
