use Rattle.std.proofs.Common.{drop}
use Rattle.serde.specs.Event.{Log}
use Rattle.serde_json.specs.Events.{SendsMembers}
use Rattle.ps_types.specs.Print.{attr_members}
use Rattle.ps_wire.proofs.print.send_each_attr.Given as goal

-- whatever ends the rest of the attributes ends all of them
abbrev pub invariant-loop-attr : goal.invariant-loop-attr
invariant-loop-attr g l =
    (end : Log) → SendsMembers (attr_members (drop l.attr-index l.attrs)) (g.S.Serializer.written l.out) end
    → SendsMembers (attr_members l.attrs) (g.S.Serializer.written l.initial.out) end
