-- The tree of each stanza error fits.
use Rattle.std.proofs.Common.{◌≡◌, ℕ, true, List, [], ◌∷◌, IsUtf8, refl, arith}
use Rattle.std.specs.Prelude.{codes}
use Rattle.std.specs.List.{AllByRecursion as Each}
use Rattle.std.proofs.lemmas.Str.{IsUtf8-nil}
use Rattle.json.proofs.Printed.Utf8.{are_ascii}
use Rattle.ps_types.specs.Namespaces.{errors_ns, stanzas_ns}
use Rattle.ps_types.specs.Print.{client}
use Rattle.ps_types.specs.Shape.{element}
use Rattle.ps_types.specs.declared.denial.Condition.{Condition}
use Rattle.ps_types.specs.declared.denial.Condition.TheVariants.{C1, C2, C3, C4, C5, C6, C7, C8, C9, C10, C11, C12, C13, C14, C15, C16, C17, C18, C19, C20, C21, C22, C23, C24, C25, C26, C27, C28}
use Rattle.ps_model.specs.Conditions.{error_tree, extra_trees, feature_in, wording_of}
use Rattle.ps_compact_laws.proofs.Fitting.{Fits, fit-more}
use Rattle.ps_compact_laws.proofs.Texts.{is_word}
use Rattle.ps_sink_laws.proofs.Elements.{fit-element, fit-leaf, one-pair}
use Rattle.ps_compact_laws.proofs.Drafts.{word}

record IsWorded (why : Condition) : Type 0 where
  name : is_word (wording_of why).name ≡ true
  type : is_word (wording_of why).type ≡ true
  extra : are_ascii (wording_of why).extra ≡ true
  feature : (f : List ℕ) → IsUtf8 f → IsUtf8 (feature_in why f)

worded : (why : Condition) → IsWorded why
worded C1 = record { name = refl; type = refl; extra = refl; feature = λ f u. IsUtf8-nil }
worded C2 = record { name = refl; type = refl; extra = refl; feature = λ f u. IsUtf8-nil }
worded C3 = record { name = refl; type = refl; extra = refl; feature = λ f u. IsUtf8-nil }
worded C4 = record { name = refl; type = refl; extra = refl; feature = λ f u. IsUtf8-nil }
worded C5 = record { name = refl; type = refl; extra = refl; feature = λ f u. IsUtf8-nil }
worded C6 = record { name = refl; type = refl; extra = refl; feature = λ f u. IsUtf8-nil }
worded C7 = record { name = refl; type = refl; extra = refl; feature = λ f u. IsUtf8-nil }
worded C8 = record { name = refl; type = refl; extra = refl; feature = λ f u. IsUtf8-nil }
worded C9 = record { name = refl; type = refl; extra = refl; feature = λ f u. IsUtf8-nil }
worded C10 = record { name = refl; type = refl; extra = refl; feature = λ f u. u }
worded C11 = record { name = refl; type = refl; extra = refl; feature = λ f u. IsUtf8-nil }
worded C12 = record { name = refl; type = refl; extra = refl; feature = λ f u. IsUtf8-nil }
worded C13 = record { name = refl; type = refl; extra = refl; feature = λ f u. IsUtf8-nil }
worded C14 = record { name = refl; type = refl; extra = refl; feature = λ f u. IsUtf8-nil }
worded C15 = record { name = refl; type = refl; extra = refl; feature = λ f u. IsUtf8-nil }
worded C16 = record { name = refl; type = refl; extra = refl; feature = λ f u. IsUtf8-nil }
worded C17 = record { name = refl; type = refl; extra = refl; feature = λ f u. IsUtf8-nil }
worded C18 = record { name = refl; type = refl; extra = refl; feature = λ f u. IsUtf8-nil }
worded C19 = record { name = refl; type = refl; extra = refl; feature = λ f u. IsUtf8-nil }
worded C20 = record { name = refl; type = refl; extra = refl; feature = λ f u. IsUtf8-nil }
worded C21 = record { name = refl; type = refl; extra = refl; feature = λ f u. IsUtf8-nil }
worded C22 = record { name = refl; type = refl; extra = refl; feature = λ f u. IsUtf8-nil }
worded C23 = record { name = refl; type = refl; extra = refl; feature = λ f u. IsUtf8-nil }
worded C24 = record { name = refl; type = refl; extra = refl; feature = λ f u. IsUtf8-nil }
worded C25 = record { name = refl; type = refl; extra = refl; feature = λ f u. IsUtf8-nil }
worded C26 = record { name = refl; type = refl; extra = refl; feature = λ f u. IsUtf8-nil }
worded C27 = record { name = refl; type = refl; extra = refl; feature = λ f u. IsUtf8-nil }
worded C28 = record { name = refl; type = refl; extra = refl; feature = λ f u. IsUtf8-nil }

extra-fits : (feature extra : List ℕ) → IsUtf8 feature → are_ascii extra ≡ true → Each (Fits 1) (extra_trees feature extra)
extra-fits feature [] text ascii = tt
extra-fits feature (x ∷ extra) text ascii = (fit-leaf (x ∷ extra) errors_ns ((codes "feature", feature) ∷ []) ascii refl ((word (codes "feature") refl, text), tt), tt)

pub error-fits : (feature : List ℕ) (why : Condition) → IsUtf8 feature → Fits 31 (error_tree client feature why)
error-fits feature why text =
    let w = worded why in
    fit-more 2 31 (error_tree client feature why) (omega arith)
    (fit-element 1 (codes "error") client ((codes "type", (wording_of why).type) ∷ []) (element (wording_of why).name stanzas_ns [] [] ∷ extra_trees (feature_in why feature) (wording_of why).extra)
    refl refl
    (one-pair (codes "type") (wording_of why).type refl (word (wording_of why).type w.type))
    (fit-leaf (wording_of why).name stanzas_ns [] w.name refl tt, extra-fits (feature_in why feature) (wording_of why).extra (w.feature feature text) w.extra))
