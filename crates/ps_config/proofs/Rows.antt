-- The rows, read one after the other.
use Rattle.std.specs.Prelude.{bytes_eq, ◌||◌}
use Rattle.std.specs.List.{list_any}
use Rattle.std.proofs.Common.{◌≡◌, ℕ, ◌+◌, ◌<◌, suc, List, [], ◌∷◌, drop, get_or, map, length, Option, None, Result, Ok, Err, refl, sym, ap, ◌∙◌, drop-cons, Bool}
use Rattle.ps_types.specs.declared.config.NodeConfig.{NodeConfig}
use Rattle.ps_types.specs.declared.form.Field.{Field}
use Rattle.ps_types.specs.declared.form.Form.{Form}
use Rattle.ps_types.specs.declared.form.FormKind.TheVariants as form
use Rattle.ps_types.specs.Config.{ConfigRow, config_rows, row_change, after_row, read_rows, read_config, type_field, config_type, config_field, config_form}
use Rattle.ps_types.specs.Forms.{values_of}
use Rattle.ps_config.specs.declared.row.Setting.{Setting}
use Rattle.ps_config.specs.Rows.{row_of, all_rows}

pub rows_named : map row_of all_rows ≡ config_rows
unfolding row_of
rows_named = refl

-- what one row makes of a configuration
abbrev pub one_row : Setting → Form → NodeConfig → Option NodeConfig
one_row r form c = row_change (row_of r) c (values_of (row_of r).var form)

-- what is read from a row on
abbrev pub from_row : ℕ → List Setting → Form → NodeConfig → Result NodeConfig ℕ
from_row i rows form c = read_rows (i + 1) (map row_of (drop i rows)) form c

pub bad-row : (i : ℕ) (rows : List Setting) (d : Setting) (form : Form) (c : NodeConfig) → i < length rows → one_row (get_or rows i d) form c ≡ None → from_row i rows form c ≡ Err (i + 1)
bad-row i rows d form c h one =
    ap (λ (l : List Setting). read_rows (i + 1) (map row_of l) form c) (drop-cons rows i d h)
    ∙ ap (λ (o : Option NodeConfig). after_row (i + 1) o (λ x. read_rows (i + 1 + 1) (map row_of (drop (suc i) rows)) form x)) one

pub end-rows : (i : ℕ) (rows : List Setting) (form : Form) (c : NodeConfig) → drop i rows ≡ [] → from_row i rows form c ≡ Ok c
end-rows i rows form c e = ap (λ (l : List Setting). read_rows (i + 1) (map row_of l) form c) e

pub all-read : (rows : List Setting) (form : Form) (base : NodeConfig) → rows ≡ all_rows → from_row 0 rows form base ≡ read_config form base
all-read rows form base e = ap (λ (l : List Setting). read_rows 1 (map row_of l) form base) e ∙ ap (λ (l : List ConfigRow). read_rows 1 l form base) rows_named

-- ---- printed

pub all-printed : (c : NodeConfig) (fields : List Field) → fields ≡ type_field config_type ∷ map (config_field c) (map row_of all_rows) → record { kind = form.Form; fields = fields } ≡ config_form c
all-printed c fields e =
    let all : fields ≡ type_field config_type ∷ map (config_field c) config_rows = e ∙ ap (λ (l : List ConfigRow). type_field config_type ∷ map (config_field c) l) rows_named in
    ap (λ (l : List Field). record { kind = form.Form; fields = l }) all

-- ---- looked up

any-mapped : (var : List ℕ) (rows : List Setting) → list_any (λ row. bytes_eq row.var var) (map row_of rows) ≡ list_any (λ row. bytes_eq (row_of row).var var) rows
any-mapped var [] = refl
any-mapped var (r ∷ rows) = ap (λ (b : Bool). bytes_eq (row_of r).var var || b) (any-mapped var rows)

pub any_named : (var : List ℕ) → list_any (λ row. bytes_eq (row_of row).var var) all_rows ≡ list_any (λ row. bytes_eq row.var var) config_rows
any_named var = sym (any-mapped var all_rows) ∙ ap (λ (l : List ConfigRow). list_any (λ row. bytes_eq row.var var) l) rows_named
