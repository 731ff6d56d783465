use Rattle.ps_trace.proofs.Landing.{records-land-flushed}
use Rattle.ps_trace.proofs.laws.each_record_lands.Goals as goal

pub returns : goal.returns
returns c = record {
  landed = λ core laws boot list hosts h k done rest old mid found new differ writes is did passed flush.
      records-land-flushed core laws boot list hosts differ h k writes done rest old mid found new is did passed flush;
}
