-- A verdict is told by its number.
use Rattle.std.proofs.Common.{◌≡◌, ℕ, List, [], ◌∷◌, Option, Some, refl, sym, ap, ◌∙◌}
use Rattle.std.specs.Prelude.{◌==◌, find}
use Rattle.ps_types.specs.declared.denial.Condition.{Condition}
use Rattle.ps_types.specs.declared.denial.Condition.TheVariants.{C1, C2, C3, C4, C5, C6, C7, C8, C9, C10, C11, C12, C13, C14, C15, C16, C17, C18, C19, C20, C21, C22, C23, C24, C25, C26, C27, C28}
use Rattle.ps_types.specs.declared.denial.Rule.{Rule}
use Rattle.ps_types.specs.declared.denial.Rule.TheVariants.{ByAffiliation, ByOpen, ByPresence, ByGroup, BySubscription, ByPublishModel}
use Rattle.ps_types.specs.declared.denial.Verdict.{Verdict}
use Rattle.ps_types.specs.declared.denial.Verdict.TheVariants.{Granted, Pending, Denied}
use Rattle.ps_audit.specs.Codes.{verdict_code}
use Rattle.ps_audit_laws.proofs.Texts.{same-four}

all : List Verdict
all =
    Granted ByAffiliation ∷ Granted ByOpen ∷ Granted ByPresence ∷ Granted ByGroup ∷ Granted BySubscription ∷ Granted ByPublishModel ∷ Pending
    ∷ Denied C1 ∷ Denied C2 ∷ Denied C3 ∷ Denied C4 ∷ Denied C5 ∷ Denied C6 ∷ Denied C7 ∷ Denied C8 ∷ Denied C9 ∷ Denied C10 ∷ Denied C11 ∷ Denied C12 ∷ Denied C13 ∷ Denied C14
    ∷ Denied C15 ∷ Denied C16 ∷ Denied C17 ∷ Denied C18 ∷ Denied C19 ∷ Denied C20 ∷ Denied C21 ∷ Denied C22 ∷ Denied C23 ∷ Denied C24 ∷ Denied C25 ∷ Denied C26 ∷ Denied C27 ∷ Denied C28 ∷ []

verdict_of : ℕ → Option Verdict
verdict_of n = find (λ v. verdict_code v == n) all

granted-again : (rule : Rule) → verdict_of (verdict_code (Granted rule)) ≡ Some (Granted rule)
unfolding verdict_of all
granted-again ByAffiliation = refl
granted-again ByOpen = refl
granted-again ByPresence = refl
granted-again ByGroup = refl
granted-again BySubscription = refl
granted-again ByPublishModel = refl

denied-again : (why : Condition) → verdict_of (verdict_code (Denied why)) ≡ Some (Denied why)
unfolding verdict_of all
denied-again C1 = refl
denied-again C2 = refl
denied-again C3 = refl
denied-again C4 = refl
denied-again C5 = refl
denied-again C6 = refl
denied-again C7 = refl
denied-again C8 = refl
denied-again C9 = refl
denied-again C10 = refl
denied-again C11 = refl
denied-again C12 = refl
denied-again C13 = refl
denied-again C14 = refl
denied-again C15 = refl
denied-again C16 = refl
denied-again C17 = refl
denied-again C18 = refl
denied-again C19 = refl
denied-again C20 = refl
denied-again C21 = refl
denied-again C22 = refl
denied-again C23 = refl
denied-again C24 = refl
denied-again C25 = refl
denied-again C26 = refl
denied-again C27 = refl
denied-again C28 = refl

again : (v : Verdict) → verdict_of (verdict_code v) ≡ Some v
unfolding verdict_of all
again (Granted rule) = granted-again rule
again Pending = refl
again (Denied why) = denied-again why

pub verdict-one : (v w : Verdict) → verdict_code v ≡ verdict_code w → v ≡ w
verdict-one v w e =
    let both : Some v ≡ Some w = sym (again v) ∙ ap verdict_of e ∙ again w in
    cc both
