use Rattle.std.proofs.Common.{◌≡◌, ◌++◌}
use Rattle.std.specs.BTreeMap.{btree_map_len, values}
use Rattle.ps_notices.proofs.arranged.values_of.Given as goal

abbrev pub invariant-loop-told : goal.invariant-loop-told
invariant-loop-told l = l.all.items ++ values l.map ≡ values l.fn.map

abbrev pub decreases-loop-told : goal.decreases-loop-told
decreases-loop-told l = btree_map_len l.map
