-- What makes an answer ill-formed, seen on its sorted parts (XEP-0115 §5.4).
use Rattle.std.specs.Prelude.{ℕ, Bool, false, not, ◌||◌, List, [], ◌∷◌}
use Rattle.std.specs.List.{list_all}
use Rattle.std.specs.Str.{bytes_eq}
use Rattle.ps_types.specs.declared.form.Identity.{Identity}
use Rattle.ps_types.specs.CapString.{same_identity, same_type, has_one_type}
use Rattle.ps_caps.specs.declared.forms.TypedForm.{TypedForm}
use Rattle.ps_caps.specs.Typed.{seen}

-- some element is followed by one that is the same
abbrev pub neighbours : {A : Type 0} → (A → A → Bool) → List A → Bool
neighbours same [] = false
neighbours same (x ∷ []) = false
neighbours same (x ∷ y ∷ ys) = same x y || neighbours same (y ∷ ys)

abbrev pub shows_ill : List Identity → List (List ℕ) → List TypedForm → Bool
shows_ill identities features forms =
    neighbours same_identity identities
    || neighbours bytes_eq features
    || neighbours (λ a b. same_type (seen a) (seen b)) forms
    || not (list_all (λ form. has_one_type (seen form)) forms)
