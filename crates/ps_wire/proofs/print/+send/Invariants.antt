use Rattle.std.proofs.Common.{◌+◌, ◌*◌, drop}
use Rattle.serde.specs.Event.{Log}
use Rattle.serde_json.specs.Events.{SendsItems}
use Rattle.ps_types.specs.Tree.{levels, nodes_levels}
use Rattle.ps_types.specs.Elem.{nodes}
use Rattle.ps_types.specs.Print.{items_of}
use Rattle.ps_wire.proofs.Depths.{kid_levels}
use Rattle.ps_wire.proofs.print.+send.Given as goal

abbrev pub decreases-send_elem : goal.decreases-send_elem
decreases-send_elem g l = 4 * levels l.elem.now

abbrev pub decreases-send_kids : goal.decreases-send_kids
decreases-send_kids g l = 4 * nodes_levels (nodes l.kids.now) + 3

abbrev pub decreases-send_each_kid : goal.decreases-send_each_kid
decreases-send_each_kid g l = 4 * nodes_levels (nodes l.kids.now) + 2

abbrev pub decreases-send_kid : goal.decreases-send_kid
decreases-send_kid g l = 4 * kid_levels l.kid.now + 1

-- whatever ends the rest of the children ends all of them
abbrev pub invariant-send_each_kid-loop-kid : goal.invariant-send_each_kid-loop-kid
invariant-send_each_kid-loop-kid g l =
    (end : Log) → SendsItems (items_of l.ns (nodes (drop l.kid-index l.kids))) (g.S.Serializer.written l.out) end
    → SendsItems (items_of l.ns (nodes l.kids)) (g.S.Serializer.written l.initial.out) end
