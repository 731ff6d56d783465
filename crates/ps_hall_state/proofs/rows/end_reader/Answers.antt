use Rattle.std.proofs.Common.{refl}
use Rattle.std.proofs.lemmas.Option.{slice_get_read}
use Rattle.ps_hall_state.proofs.rows.end_reader.Goals as goal

pub returns : goal.returns
returns c = record {
  ends = (
    c.index_mut.result.now,
    _,
    record { was = slice_get_read _ _ _ _ refl c.requires.here c.index_mut.ensures.value; is = refl },
    record
        { host = refl; line = refl; waiting = refl; landing = refl; reader = refl; writer = refl; room = refl },
  );
}
