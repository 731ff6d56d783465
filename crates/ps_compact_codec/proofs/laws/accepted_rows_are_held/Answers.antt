use Rattle.ps_compact_codec.proofs.Accepted.{accepted-is-held, held-is-accepted}
use Rattle.ps_compact_codec.proofs.laws.accepted_rows_are_held.Goals as goal

pub returns : goal.returns
returns c = record {
  held = λ t s h. accepted-is-held t s h;
  accepted = λ t s. held-is-accepted t s;
}
