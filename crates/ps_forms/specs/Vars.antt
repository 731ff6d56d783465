-- Fields that have a var. A field without one isn't read again.
use Rattle.std.specs.Prelude.{◌≢◌, List, [], ◌∷◌}
use Rattle.ps_types.specs.declared.form.Field.{Field}

abbrev pub HaveVars : List Field → Type 0
HaveVars [] = Unit {0}
HaveVars (field ∷ fields) = (field.var ≢ []) × HaveVars fields
