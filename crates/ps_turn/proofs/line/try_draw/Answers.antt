use Rattle.ps_turn.proofs.Waiting.{tries_ok}
use Rattle.ps_turn.proofs.line.try_draw.Goals as goal

pub compare_exchange-requires : goal.compare_exchange-requires
compare_exchange-requires g c = (c.requires.table, c.requires.words.0, tries_ok _ _ _ _ _ _ _ c.requires.draws)
