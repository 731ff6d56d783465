use Rattle.std.proofs.Common.{◌≡◌, ◌++◌, drop, map}
use Rattle.std.specs.List.{filter_map}
use Rattle.ps_types.specs.CapString.{typed, typed_forms}
use Rattle.ps_caps.specs.Typed.{seen}
use Rattle.ps_caps.proofs.forms.typed_forms.Given as goal

abbrev pub invariant-loop-form : goal.invariant-loop-form
invariant-loop-form l = map seen l.forms.items ++ filter_map typed (drop l.form-index l.info.forms) ≡ typed_forms l.info
