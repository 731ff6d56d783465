-- What a writer is told, and what it then has in hand.
use Rattle.std.specs.Prelude.{◌≡◌, ◌++◌, ◌∷◌, [], List, Result, Ok, Err}
use Rattle.ps_types.specs.declared.jid.Jid.{Jid}
use Rattle.ps_hall_state.specs.declared.answers.NextLine.{NextLine as Told}
use Rattle.ps_hall_state.specs.declared.answers.NextLine.TheVariants as told
use Rattle.ps_hall.specs.declared.answers.Next.{Next}
use Rattle.ps_hall.specs.declared.answers.Next.TheVariants.{Reply, Notice, NotYet, Over}

abbrev pub IsToldAs : {E : Type 0} → Result Told E → Result Next E → List Jid → List Jid → Type 0
IsToldAs (Ok (told.Reply text)) result hand now = (result ≡ Ok (Reply text)) × (now ≡ hand)
IsToldAs (Ok (told.Notice to text)) result hand now = (result ≡ Ok (Notice text)) × (now ≡ hand ++ to ∷ [])
IsToldAs (Ok told.NotYet) result hand now = (result ≡ Ok NotYet) × (now ≡ hand)
IsToldAs (Ok told.Over) result hand now = (result ≡ Ok Over) × (now ≡ hand)
IsToldAs (Err e) result hand now = (result ≡ Err e) × (now ≡ hand)
