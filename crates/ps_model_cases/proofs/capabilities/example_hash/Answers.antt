use Rattle.ps_model_cases.proofs.CapabilitiesHold.{exodus-string, exodus-ver}
use Rattle.ps_model_cases.proofs.capabilities.example_hash.Goals as goal

pub returns : goal.returns
returns c = record { string = exodus-string; ver = exodus-ver }
