-- What lies in a slot.
use Rattle.std.specs.Prelude.{◌≡◌, Some, None}
use Rattle.ps_twin.specs.declared.part.Part.{Part}

abbrev pub state_part : {V J : Type 0} → V → Part V J
state_part y = record { state = Some y; journal = None }

abbrev pub journal_part : {V J : Type 0} → J → Part V J
journal_part y = record { state = None; journal = Some y }

abbrev pub no_part : {V J : Type 0} → Part V J
no_part = record { state = None; journal = None }

module _ {V J : Type 0} where
  abbrev pub IsState : Part V J → Type 0
  IsState p = (y : V) × (p ≡ state_part y)

  abbrev pub IsJournal : Part V J → Type 0
  IsJournal p = (y : J) × (p ≡ journal_part y)
