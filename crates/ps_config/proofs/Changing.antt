-- A row that is put, or refused, by its name.
use Rattle.std.proofs.Common.{◌≡◌, ℕ, List, Option, Some, None, option_map, Result, Ok, Err, sym, ap, ◌∙◌}
use Rattle.std.specs.Prelude.{OnOk, IsErrOf}
use Rattle.ps_types.specs.declared.config.NodeConfig.{NodeConfig}
use Rattle.ps_config.specs.declared.row.Setting.{Setting}
use Rattle.ps_config.specs.declared.change.Unread.{Unread}
use Rattle.ps_config.specs.declared.change.Unread.TheVariants.{Bad}
use Rattle.ps_config.specs.Rows.{row_of}

made-of : {X : Type 0} (set : X → NodeConfig) (s : Setting) (config : NodeConfig) (values : List (List ℕ)) {r : Setting} {value read : Option X}
    → r ≡ s → value ≡ read → (row_of s).change config values ≡ option_map set read → (row_of r).change config values ≡ option_map set value
made-of set s config values is e same = ap (λ (t : Setting). (row_of t).change config values) is ∙ same ∙ ap (option_map set) (sym e)

pub put-row : {X U : Type 0} (set : X → NodeConfig) (s : Setting) (config : NodeConfig) (values : List (List ℕ)) {r : Setting} {value read : Option X} (result : Result U Unread) (x : X)
    → r ≡ s → value ≡ read → (row_of s).change config values ≡ option_map set read → OnOk result (value ≡ Some x) → OnOk result ((row_of r).change config values ≡ Some (set x))
put-row set s config values (Ok u) x is e same h = made-of set s config values is e same ∙ ap (option_map set) h
put-row set s config values (Err u) x is e same h = tt

pub refused-row : {X U : Type 0} (set : X → NodeConfig) (s : Setting) (config : NodeConfig) (values : List (List ℕ)) {r : Setting} {value read : Option X} {result : Result U Unread}
    → r ≡ s → value ≡ read → (row_of s).change config values ≡ option_map set read → (IsErrOf result Bad → value ≡ None) → IsErrOf result Bad → (row_of r).change config values ≡ None
refused-row set s config values is e same h bad = made-of set s config values is e same ∙ ap (option_map set) (h bad)
