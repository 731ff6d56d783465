use Rattle.std.proofs.Common.{◌≡◌, ap, ap₂, not, arith, ◌∙◌}
use Rattle.std.specs.Str.{bytes_eq}
use mir.Val.{bool_byte}
use Rattle.serde_json.specs.Events.{members_len}
use Rattle.ps_types.specs.Elem.{nodes}
use Rattle.ps_types.specs.Tree.{tree}
use Rattle.ps_wire.proofs.Sent.{members_count}
use Rattle.ps_wire.specs.Sending.{members_of}
use Rattle.ps_wire.proofs.print.count_members.Goals as goal

pub returns : goal.returns
returns c =
    let name = c.elem.inside.name in
    let ns = c.elem.inside.ns in
    let parent = c.args.parent.now in
    let attrs = c.as_slice.result.now in
    let kids = c.as_slice-2.result.now in
    let whole : tree name ns attrs (nodes kids) ≡ c.args.elem.now =
    ap₂ (λ a k. tree name ns a (nodes k)) c.as_slice.ensures.value c.as_slice-2.ensures.value ∙ c.elem.view_is in
    omega (
      arith,
      c.from-attrs.ensures ∙ ap (λ b. bool_byte (not b)) c.is_empty.ensures,
      c.from-kids.ensures ∙ ap (λ b. bool_byte (not b)) c.is_empty-2.ensures,
      c.from-ns.ensures ∙ ap bool_byte c.ne.ensures ∙ ap (λ x. bool_byte (not (bytes_eq x parent))) c.as_str.ensures.value,
      members_count parent name ns attrs kids ∙ ap (λ t. members_len (members_of parent t)) whole,
    )
