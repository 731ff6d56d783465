use Rattle.ps_model.proofs.StreamLaws.{notes-kept, replies-kept}
use Rattle.ps_model.proofs.stream_laws.sink_has_what_is_said.Goals as goal

pub returns : goal.returns
returns c = record {
  replies = λ said rest are. replies-kept said rest are.each are.part;
  notes = λ said rest a are. notes-kept said rest a are.each are.part;
}
