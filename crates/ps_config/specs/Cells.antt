-- What a row holds, as the type of its field and the values that it has.
use Rattle.std.specs.Prelude.{ℕ, List, [], ◌∷◌, codes}
use Rattle.std.specs.Fmt.{decimal}
use Rattle.ps_types.specs.declared.form.Field.{Field}
use Rattle.ps_types.specs.Values.{boolean_text}
use Rattle.ps_config.specs.declared.row.Cell.{Cell}
use Rattle.ps_config.specs.declared.row.Cell.TheVariants as cell

abbrev pub cell_type : Cell → List ℕ
cell_type (cell.Line text) = codes "text-single"
cell_type (cell.Flag flag) = codes "boolean"
cell_type (cell.Number number) = codes "text-single"
cell_type (cell.Word word) = codes "list-single"
cell_type (cell.Lines texts) = codes "list-multi"

abbrev pub cell_values : Cell → List (List ℕ)
cell_values (cell.Line text) = text.now ∷ []
cell_values (cell.Flag flag) = boolean_text flag ∷ []
cell_values (cell.Number number) = decimal number ∷ []
cell_values (cell.Word word) = word.now ∷ []
cell_values (cell.Lines texts) = texts.now

-- a field with one of its choices
abbrev pub choice_field : List ℕ → List ℕ → Field
choice_field var value = record { var = var; kind = codes "list-single"; values = value ∷ [] }
