-- Numbers that are written in digits.
use Rattle.std.specs.Prelude.{ℕ, List, Option, Some, None, if◌then◌else◌}
use Rattle.std.specs.Str.Parse.{digits_value}
use Rattle.ps_types.specs.Values.{are_digits}

-- the number that 1 to 20 digits write
abbrev pub value_in : List ℕ → Option ℕ
value_in text = if are_digits 20 text then Some (digits_value 10 text) else None
