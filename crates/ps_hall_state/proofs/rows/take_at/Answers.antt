use Rattle.std.proofs.Common.{refl}
use Rattle.std.proofs.lemmas.Option.{slice_get_read}
use Rattle.ps_hall_state.proofs.rows.take_at.Goals as goal

pub returns : goal.returns
returns c = record { takes = (c.index_mut.result.now, c.take_of.new.row, record { was = slice_get_read _ _ _ _ refl c.requires.here c.index_mut.ensures.value; is = refl }, c.take_of.ensures.takes) }
