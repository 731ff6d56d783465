use Rattle.std.proofs.Common.{refl}
use Rattle.std.proofs.lemmas.Option.{slice_get_read}
use Rattle.ps_hall_state.proofs.rows.say_at.Goals as goal

pub returns : goal.returns
returns c = record { says = (c.index_mut.result.now, c.say.new.row, record { was = slice_get_read _ _ _ _ refl c.requires.here c.index_mut.ensures.value; is = refl }, c.say.ensures.says) }
