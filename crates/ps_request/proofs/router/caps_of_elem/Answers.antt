use Rattle.std.proofs.Common.{◌∙◌, sym}
use Rattle.ps_request.proofs.Routed.{caps-made}
use Rattle.ps_request.proofs.router.caps_of_elem.Goals as goal

pub returns : goal.returns
returns c =
    caps-made _ _ _ _ _ _ (c.in_ok-of.ensures.value ∙ c.attr-hash.ensures) (c.in_ok-of-2.ensures.value ∙ c.attr-node.ensures) (c.in_ok-of-3.ensures.value ∙ c.attr-ver.ensures)
    _ _ _ c.attr-hash.ensures c.attr-node.ensures c.attr-ver.ensures
    (sym c.is_empty.ensures ∙ c.if-is_empty.false) (sym c.is_empty-else-is_empty.ensures ∙ c.if-is_empty-2.false) (sym c.is_empty-else-is_empty-2.ensures ∙ c.if-is_empty-3.false)
