use Rattle.std.proofs.Common.{◌≡◌, ◌++◌, drop}
use Rattle.std.specs.Prelude.{string_bytes}
use Rattle.ps_types.specs.Elem.{nodes}
use Rattle.ps_types.specs.Shape.{tree_text, text_in}
use Rattle.ps_forms.proofs.kids.text_of.Given as goal

abbrev pub invariant-loop-kid : goal.invariant-loop-kid
invariant-loop-kid l = string_bytes l.text ++ text_in (nodes (drop l.kid-index l.kid-items)) ≡ tree_text l.elem
