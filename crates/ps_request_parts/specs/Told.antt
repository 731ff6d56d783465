-- What a roster item tells, in the model's words.
use Rattle.ps_model.specs.Words.{RosterAsk, set, remove}
use Rattle.ps_request_parts.specs.declared.contacts.Told.{Told}
use Rattle.ps_request_parts.specs.declared.contacts.Told.TheVariants as told

abbrev pub told_in : Told → RosterAsk
told_in (told.Set state) = set state
told_in told.Remove = remove
