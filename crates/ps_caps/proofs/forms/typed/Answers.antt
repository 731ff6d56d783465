use Rattle.std.proofs.Common.{◌≡◌, ◌<◌, ◌∙◌, List, sym, ap, subst, length, get_or, rules}
use Rattle.std.specs.Prelude.{codes, position, remove}
use Rattle.std.specs.Str.{bytes_eq}
use Rattle.ps_types.specs.declared.form.Field.{Field}
use Rattle.ps_types.specs.Forms.{form_type_var, is_field}
use Rattle.ps_caps.proofs.Placed.{all_same, field_same, none_typed, not_typed, typed_at, position_below}
use Rattle.ps_caps.proofs.forms.typed.Goals as goal

pub returns-in_default : goal.returns-in_default
returns-in_default c = none_typed c.args.form.now.fields (ap (position (is_field form_type_var)) (sym c.as_slice.ensures) ∙ sym c.place_of.ensures ∙ c.in_default.is)

pub returns-then-not-is : goal.returns-then-not-is
returns-then-not-is c =
    not_typed c.args.form.now.fields c.in-Some.at c.index-as_slice-at.result (ap (position (is_field form_type_var)) (sym c.as_slice.ensures) ∙ sym c.place_of.ensures ∙ c.in-Some.is)
    (c.index-as_slice-at.is ∙ ap (λ (l : List Field). get_or l c.in-Some.at c.index-as_slice-at.result) c.as_slice-2.ensures)
    (ap (λ (f : Field). bytes_eq f.kind (codes "hidden")) c.index-as_slice-at.is ∙ sym c.is.ensures ∙ c.if-not-is.true)

pub remove-field-requires : goal.remove-field-requires
remove-field-requires c =
    let low : c.in-Some.at < length c.args.form.now.fields =
    position_below (is_field form_type_var) c.args.form.now.fields c.in-Some.at (ap (position (is_field form_type_var)) (sym c.as_slice.ensures) ∙ sym c.place_of.ensures ∙ c.in-Some.is) in
    subst (λ n. c.in-Some.at < n) (sym (c.into_vec-others.result.ok.0 ∙ ap length (c.into_vec-others.ensures ∙ all_same _ (λ x y k. field_same x y k) _ _ c.in_ok-clone.ensures.cases))) low

pub returns : goal.returns
returns c =
    let copied = c.into_vec-others.ensures ∙ all_same _ (λ x y k. field_same x y k) _ _ c.in_ok-clone.ensures.cases in
    c.typed_by.ensures
    ∙ typed_at c.args.form.now.fields c.in-Some.at c.index-as_slice-at.result c.remove-field.result c.from_vec.result
    (ap (position (is_field form_type_var)) (sym c.as_slice.ensures) ∙ sym c.place_of.ensures ∙ c.in-Some.is)
    (c.index-as_slice-at.is ∙ ap (λ (l : List Field). get_or l c.in-Some.at c.index-as_slice-at.result) c.as_slice-2.ensures)
    (c.remove-field.ensures.value ∙ ap (λ (l : List Field). get_or l c.in-Some.at c.remove-field.result) copied)
    (c.from_vec.ensures ∙ c.remove-field.ensures.items ∙ ap (λ (l : List Field). remove l c.in-Some.at) copied)
    (ap (λ (f : Field). bytes_eq f.kind (codes "hidden")) c.index-as_slice-at.is ∙ sym c.is.ensures ∙ c.if-not-is.false)
