use Rattle.ps_model_cases.proofs.Moments.{stamp-first, stamp-later, stamp-leap}
use Rattle.ps_model_cases.proofs.stores.stamps.Goals as goal

pub returns : goal.returns
returns c = record { first = stamp-first; leap = stamp-leap; later = stamp-later }
