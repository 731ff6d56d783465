use Rattle.std.proofs.Common.{◌≡◌, map, Bool, true, false, ◌∙◌, sym, ap}
use Rattle.std.specs.Prelude.{Some, string_bytes}
use Rattle.ps_types.specs.CapString.{form_le}
use Rattle.ps_types.specs.Ordered.{sort_by}
use Rattle.ps_caps.specs.Repeated.{shows_ill}
use Rattle.ps_caps.specs.Typed.{seen}
use Rattle.ps_caps.proofs.Formed.{ill, well}
use Rattle.ps_caps.proofs.ver.ver_of.Goals as goal

pub returns-then-is_ill_formed-clause-ill_formed : goal.returns-then-is_ill_formed-clause-ill_formed
returns-then-is_ill_formed-clause-ill_formed c = λ _.
    ill c.args.info.now c.deref.result.now c.deref-2.result.now c.deref-3.result.now (c.deref.ensures.value ∙ c.in_ok-identities.ensures) (c.deref-2.ensures.value ∙ c.in_ok-features.ensures)
    (ap (map seen) c.deref-3.ensures.value ∙ c.in_ok-forms-2.ensures ∙ ap (sort_by form_le) c.in_ok-forms.ensures) (sym c.is_ill_formed.ensures ∙ c.if-is_ill_formed.true)

pub returns-clause-ok : goal.returns-clause-ok
returns-clause-ok c =
    let d1 = c.deref.ensures.value in
    let d2 = c.deref-2.ensures.value in
    let d3 = c.deref-3.ensures.value in
    let d4 = c.deref-4.ensures.value in
    let d5 = c.deref-5.ensures.value in
    let d6 = c.deref-6.ensures.value in
    let shown : shows_ill c.deref-4.result.now c.deref-5.result.now c.deref-6.result.now ≡ false = cc (sym c.is_ill_formed.ensures ∙ c.if-is_ill_formed.false, d1, d2, d3, d4, d5, d6) in
    well c.args.info.now c.deref-4.result.now c.deref-5.result.now c.deref-6.result.now (d4 ∙ c.in_ok-identities.ensures) (d5 ∙ c.in_ok-features.ensures)
    (ap (map seen) d6 ∙ c.in_ok-forms-2.ensures ∙ ap (sort_by form_le) c.in_ok-forms.ensures) c.as_str.result.now shown (c.as_str.ensures.value ∙ c.in_ok-string.ensures)
    ∙ ap Some (sym c.in_ok-string_ver.ensures)
