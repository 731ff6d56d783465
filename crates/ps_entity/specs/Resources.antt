-- When a resource is as it was.
use Rattle.std.specs.Prelude.{ℕ, Bool, true, false, ◌&&◌, List, Option, Some, None}
use Rattle.std.specs.Cmp.Lexicographic.{pointwise}
use Rattle.std.specs.Str.{bytes_eq}
use Rattle.ps_types.specs.declared.rows.Caps.{Caps}
use Rattle.ps_types.specs.declared.rows.ResourceRow.{ResourceRow}
use Rattle.ps_model.specs.SameRows.{same_caps}

abbrev pub shows_caps : Option Caps → Option Caps → Bool
shows_caps None None = true
shows_caps (Some caps) (Some old) = same_caps caps old
shows_caps _ _ = false

-- the row has these capabilities and these features
abbrev pub is_resource : Option Caps → List (List ℕ) → ResourceRow → Bool
is_resource caps features row = shows_caps caps row.caps && pointwise bytes_eq features row.features
