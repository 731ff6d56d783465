use Rattle.std.proofs.Common.{◌≡◌, [], drop, Some, sym, subst}
use Rattle.std.proofs.lemmas.List.{drop_all}
use Rattle.std.proofs.lemmas.Result.{on_ok_weaker}
use Rattle.serde.specs.Event.{Logs, map_begins}
use Rattle.serde_json.specs.Events.{SendsMembers}
use Rattle.ps_types.specs.Print.{attr_members}
use Rattle.ps_wire.proofs.Sent.{attrs_len}
use Rattle.ps_wire.proofs.print.send_each_attr.Goals as goal

pub returns : goal.returns
returns g c =
    let written = g.S.Serializer.written in
    let xs = c.args.attrs.now in
    let first = written c.begin_map.new.self in
    let end = written c.end_map.new.self in
    let begun = subst (λ n. Logs (written c.args.out.now) first (map_begins (Some n))) (sym (attrs_len xs)) c.in_ok-begin_map.ensures in
    let none : drop c.loop-attr.attr-index xs ≡ [] = drop_all c.loop-attr.attr-index xs c.loop-attr-test.false in
    on_ok_weaker c.end_map.result (λ e. (
      first,
      begun,
      c.loop-attr.invariant end (subst (λ ys. SendsMembers (attr_members ys) (written c.loop-attr.out) end) (sym none) e),
    )) c.end_map.ensures
