use Rattle.ps_model_cases.proofs.CapabilitiesHold.{ill-formed, repeated-holds}
use Rattle.ps_model_cases.proofs.capabilities.repeated_feature.Goals as goal

pub returns : goal.returns
returns c = record { ill_formed = ill-formed; nothing = repeated-holds }
