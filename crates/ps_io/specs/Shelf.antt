-- What stands under a name.
use Rattle.std.specs.Prelude.{ℕ, List}
use Rattle.std.specs.declared.option.Option.{Option}
use Rattle.std.specs.Option.{option_map}
use Rattle.std.specs.List.{find}
use Rattle.std.specs.Str.{bytes_eq}
use Rattle.ps_io.specs.declared.shelf.Slot.{Slot}

-- nothing, a place whose object is lent, or the object
abbrev pub at : {T : Type 0} → List (Slot T) → List ℕ → Option (Option T)
at slots name = option_map (λ slot. slot.held) (find (λ slot. bytes_eq slot.name name) slots)
