-- Lists that were told in parts, each of which may have been refused memory.
use Rattle.std.specs.Prelude.{◌≡◌, false, List, [], flat_map, Result, Ok, Err, is_err}
use Rattle.std.specs.Global.{Vec}
use Rattle.std.specs.List.{AllByRecursion}
use Rattle.ps_base.specs.declared.refusals.Memory.{Memory}
use Rattle.ps_types.specs.Tree.{Tree}
use Rattle.ps_types.specs.declared.jid.Jid.{Jid}

abbrev pub Part : Type 0
Part = Result (Vec (Jid × Tree)) Memory

abbrev pub part_told : Part → List (Jid × Tree)
part_told (Ok part) = part.items
part_told (Err why) = []

-- none was refused, and they stand one after the other
pub record Joins (parts : List Part) (told : List (Jid × Tree)) : Type 0 where
  pub made : AllByRecursion (λ part. is_err part ≡ false) parts
  pub joined : told ≡ flat_map part_told parts
