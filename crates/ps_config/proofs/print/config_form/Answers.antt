use Rattle.std.proofs.Common.{◌≡◌, ◌++◌, ◌∷◌, [], List, map, ap, ◌∙◌}
use Rattle.ps_types.specs.declared.form.Field.{Field}
use Rattle.ps_types.specs.Config.{type_field, config_type, config_field}
use Rattle.ps_config.specs.Rows.{row_of, all_rows}
use Rattle.ps_config.proofs.Rows.{all-printed}
use Rattle.ps_config.proofs.print.config_form.Goals as goal

pub returns : goal.returns
returns c =
    let head : c.push.new.self ≡ type_field config_type ∷ [] =
    c.in_ok-push.ensures.ok ∙ ap (λ (l : List Field). l ++ c.in_ok-type_field.field-0 ∷ []) c.new-fields.ensures ∙ ap (λ (f : Field). f ∷ []) c.in_ok-type_field.ensures
    in
    all-printed c.args.config.now _ (c.in_ok-add_rows.ensures ∙ ap (λ (l : List Field). l ++ map (config_field c.args.config.now) (map row_of all_rows)) head)
