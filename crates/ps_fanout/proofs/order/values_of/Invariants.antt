use Rattle.std.proofs.Common.{◌≡◌, ◌++◌}
use Rattle.std.specs.BTreeMap.{btree_map_len, values}
use Rattle.ps_fanout.proofs.order.values_of.Given as goal

abbrev pub invariant-loop-who : goal.invariant-loop-who
invariant-loop-who l = l.whos.items ++ values l.map ≡ values l.fn.map

abbrev pub decreases-loop-who : goal.decreases-loop-who
decreases-loop-who l = btree_map_len l.map
