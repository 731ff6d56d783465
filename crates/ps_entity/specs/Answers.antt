-- When an answer of a resource tells what isn't known.
use Rattle.std.specs.Prelude.{Bool, true, false, ◌&&◌, ◌||◌, not, is_some, List, Option, Some, None}
use Rattle.std.specs.Cmp.Lexicographic.{pointwise}
use Rattle.std.specs.Str.{bytes_eq}
use Rattle.ps_types.specs.declared.rows.Caps.{Caps}
use Rattle.ps_types.specs.declared.rows.ResourceRow.{ResourceRow}
use Rattle.ps_types.specs.declared.rows.VerRow.{VerRow}
use Rattle.ps_types.specs.Vers.{ver_at}
use Rattle.ps_model.specs.Book.{Book}
use Rattle.ps_model.specs.SameRows.{same_resources, same_vers}
use Rattle.ps_request_parts.specs.declared.answers.Answered.{Answered}

-- features that the resource doesn't have so far, or a string that isn't verified so far
abbrev pub tells_anew : Option Answered → Caps → ResourceRow → List VerRow → Bool
tells_anew None caps row vers = false
tells_anew (Some answer) caps row vers = not (pointwise bytes_eq answer.features row.features) || (answer.is_verified && not (is_some (ver_at caps.ver vers)))

-- the resources or the verified strings are others
abbrev pub knows_other : Book → Book → Bool
knows_other after book = not (same_resources after.resources book.resources && same_vers after.vers book.vers)
