-- The tree of each stanza error has a form.
use Rattle.std.proofs.Common.{◌≡◌, ◌≢◌, ℕ, ◌≤◌, true, List, [], ◌∷◌, refl, arith}
use Rattle.std.specs.Prelude.{codes}
use Rattle.std.specs.Str.{IsUtf8}
use Rattle.json.proofs.Printed.Utf8.{are_ascii}
use Rattle.std.proofs.lemmas.Str.{IsUtf8-nil}
use Rattle.ps_types.specs.Form.{HasForm, HaveForm}
use Rattle.ps_types.specs.Namespaces.{errors_ns, stanzas_ns}
use Rattle.ps_types.specs.Print.{client}
use Rattle.ps_types.specs.Shape.{element, holding}
use Rattle.ps_types.specs.Tree.{levels, nodes_levels, none}
use Rattle.ps_types.specs.declared.denial.Condition.{Condition}
use Rattle.ps_types.specs.declared.denial.Condition.TheVariants.{C1, C2, C3, C4, C5, C6, C7, C8, C9, C10, C11, C12, C13, C14, C15, C16, C17, C18, C19, C20, C21, C22, C23, C24, C25, C26, C27, C28}
use Rattle.ps_model.specs.Conditions.{error_tree, extra_trees, feature_in, wording_of}
use Rattle.ps_rehearse_laws.proofs.Forming.{lit}
use Rattle.ps_rehearse_laws.proofs.Texts.{bare-form, one-form}

record IsWorded (why : Condition) : Type 0 where
  name : are_ascii (wording_of why).name ≡ true
  some : (wording_of why).name ≢ []
  extra : are_ascii (wording_of why).extra ≡ true
  type : are_ascii (wording_of why).type ≡ true
  feature : (f : List ℕ) → IsUtf8 f → IsUtf8 (feature_in why f)

worded : (why : Condition) → IsWorded why
worded C1 = record { name = refl; some = λ e. cc e; extra = refl; type = refl; feature = λ f u. IsUtf8-nil }
worded C2 = record { name = refl; some = λ e. cc e; extra = refl; type = refl; feature = λ f u. IsUtf8-nil }
worded C3 = record { name = refl; some = λ e. cc e; extra = refl; type = refl; feature = λ f u. IsUtf8-nil }
worded C4 = record { name = refl; some = λ e. cc e; extra = refl; type = refl; feature = λ f u. IsUtf8-nil }
worded C5 = record { name = refl; some = λ e. cc e; extra = refl; type = refl; feature = λ f u. IsUtf8-nil }
worded C6 = record { name = refl; some = λ e. cc e; extra = refl; type = refl; feature = λ f u. IsUtf8-nil }
worded C7 = record { name = refl; some = λ e. cc e; extra = refl; type = refl; feature = λ f u. IsUtf8-nil }
worded C8 = record { name = refl; some = λ e. cc e; extra = refl; type = refl; feature = λ f u. IsUtf8-nil }
worded C9 = record { name = refl; some = λ e. cc e; extra = refl; type = refl; feature = λ f u. IsUtf8-nil }
worded C10 = record { name = refl; some = λ e. cc e; extra = refl; type = refl; feature = λ f u. u }
worded C11 = record { name = refl; some = λ e. cc e; extra = refl; type = refl; feature = λ f u. IsUtf8-nil }
worded C12 = record { name = refl; some = λ e. cc e; extra = refl; type = refl; feature = λ f u. IsUtf8-nil }
worded C13 = record { name = refl; some = λ e. cc e; extra = refl; type = refl; feature = λ f u. IsUtf8-nil }
worded C14 = record { name = refl; some = λ e. cc e; extra = refl; type = refl; feature = λ f u. IsUtf8-nil }
worded C15 = record { name = refl; some = λ e. cc e; extra = refl; type = refl; feature = λ f u. IsUtf8-nil }
worded C16 = record { name = refl; some = λ e. cc e; extra = refl; type = refl; feature = λ f u. IsUtf8-nil }
worded C17 = record { name = refl; some = λ e. cc e; extra = refl; type = refl; feature = λ f u. IsUtf8-nil }
worded C18 = record { name = refl; some = λ e. cc e; extra = refl; type = refl; feature = λ f u. IsUtf8-nil }
worded C19 = record { name = refl; some = λ e. cc e; extra = refl; type = refl; feature = λ f u. IsUtf8-nil }
worded C20 = record { name = refl; some = λ e. cc e; extra = refl; type = refl; feature = λ f u. IsUtf8-nil }
worded C21 = record { name = refl; some = λ e. cc e; extra = refl; type = refl; feature = λ f u. IsUtf8-nil }
worded C22 = record { name = refl; some = λ e. cc e; extra = refl; type = refl; feature = λ f u. IsUtf8-nil }
worded C23 = record { name = refl; some = λ e. cc e; extra = refl; type = refl; feature = λ f u. IsUtf8-nil }
worded C24 = record { name = refl; some = λ e. cc e; extra = refl; type = refl; feature = λ f u. IsUtf8-nil }
worded C25 = record { name = refl; some = λ e. cc e; extra = refl; type = refl; feature = λ f u. IsUtf8-nil }
worded C26 = record { name = refl; some = λ e. cc e; extra = refl; type = refl; feature = λ f u. IsUtf8-nil }
worded C27 = record { name = refl; some = λ e. cc e; extra = refl; type = refl; feature = λ f u. IsUtf8-nil }
worded C28 = record { name = refl; some = λ e. cc e; extra = refl; type = refl; feature = λ f u. IsUtf8-nil }

extra-form : (feature extra : List ℕ) → IsUtf8 feature → are_ascii extra ≡ true → HaveForm (holding (extra_trees feature extra))
extra-form feature [] uf ue = tt
extra-form feature (x ∷ extra) uf ue = (one-form (x ∷ extra) errors_ns (codes "feature") feature ue (λ e. cc e) refl refl uf none tt, tt)

extra-low : (feature extra : List ℕ) → nodes_levels (holding (extra_trees feature extra)) ≤ 1
extra-low feature [] = omega arith
extra-low feature (x ∷ extra) = omega arith

pub error-form : (feature : List ℕ) (why : Condition) → IsUtf8 feature → HasForm (error_tree client feature why)
error-form feature why uf =
    let w = worded why in
    one-form (codes "error") client (codes "type") (wording_of why).type refl (λ e. cc e) refl refl (lit (wording_of why).type w.type)
    (holding (element (wording_of why).name stanzas_ns [] [] ∷ extra_trees (feature_in why feature) (wording_of why).extra))
    (bare-form (wording_of why).name stanzas_ns w.name w.some refl none tt, extra-form (feature_in why feature) (wording_of why).extra (w.feature feature uf) w.extra)

pub error-low : (feature : List ℕ) (why : Condition) → levels (error_tree client feature why) ≤ 2
error-low feature why = let h = extra-low (feature_in why feature) (wording_of why).extra in omega (arith, h)
