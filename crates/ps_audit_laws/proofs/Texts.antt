-- The text of the verdicts tells them: two that have one text are one.
use Rattle.std.proofs.Common.{◌≡◌, ℕ, Bool, true, not, List, [], ◌∷◌, ◌++◌, drop, Option, Some, None, refl, sym, ap, ◌∙◌}
use Rattle.std.specs.Prelude.{◌==◌, find, codes, get_or}
use Rattle.std.specs.List.{list_all}
use Rattle.std.specs.Fmt.{digits}
use Rattle.std.specs.Str.{bytes_eq}
use Rattle.std.proofs.lemmas.Bool.{and_parts}
use Rattle.ps_types.specs.declared.denial.Condition.{Condition}
use Rattle.ps_types.specs.declared.denial.Condition.TheVariants.{C1, C2, C3, C4, C5, C6, C7, C8, C9, C10, C11, C12, C13, C14, C15, C16, C17, C18, C19, C20, C21, C22, C23, C24, C25, C26, C27, C28}
use Rattle.ps_types.specs.declared.denial.Rule.{Rule}
use Rattle.ps_types.specs.declared.denial.Rule.TheVariants.{ByAffiliation, ByOpen, ByPresence, ByGroup, BySubscription, ByPublishModel}
use Rattle.ps_types.specs.declared.denial.Verdict.{Verdict}
use Rattle.ps_types.specs.declared.denial.Verdict.TheVariants.{Granted, Pending, Denied}
use Rattle.ps_audit_laws.specs.declared.told.Four.{Four}
use Rattle.ps_audit_laws.specs.Verdicts.{four_text, verdict_text}

-- ---- one verdict

all : List Verdict
all =
    Pending ∷ Granted ByAffiliation ∷ Granted ByOpen ∷ Granted ByPresence ∷ Granted ByGroup ∷ Granted BySubscription ∷ Granted ByPublishModel
    ∷ Denied C1 ∷ Denied C2 ∷ Denied C3 ∷ Denied C4 ∷ Denied C5 ∷ Denied C6 ∷ Denied C7 ∷ Denied C8 ∷ Denied C9 ∷ Denied C10 ∷ Denied C11 ∷ Denied C12 ∷ Denied C13 ∷ Denied C14
    ∷ Denied C15 ∷ Denied C16 ∷ Denied C17 ∷ Denied C18 ∷ Denied C19 ∷ Denied C20 ∷ Denied C21 ∷ Denied C22 ∷ Denied C23 ∷ Denied C24 ∷ Denied C25 ∷ Denied C26 ∷ Denied C27 ∷ Denied C28 ∷ []

verdict_of : List ℕ → Option Verdict
verdict_of text = find (λ v. bytes_eq (verdict_text v) text) all

is_plain : List ℕ → Bool
is_plain text = list_all (λ x. not (x == 44)) text

-- its text has no comma, and is read as the verdict
IsTold : Verdict → Type 0
IsTold v = (is_plain (verdict_text v) ≡ true) × (verdict_of (verdict_text v) ≡ Some v)

granted-told : (rule : Rule) → IsTold (Granted rule)
unfolding IsTold is_plain verdict_of all digits
granted-told ByAffiliation = (refl, refl)
granted-told ByOpen = (refl, refl)
granted-told ByPresence = (refl, refl)
granted-told ByGroup = (refl, refl)
granted-told BySubscription = (refl, refl)
granted-told ByPublishModel = (refl, refl)

denied-told : (why : Condition) → IsTold (Denied why)
unfolding IsTold is_plain verdict_of all digits
denied-told C1 = (refl, refl)
denied-told C2 = (refl, refl)
denied-told C3 = (refl, refl)
denied-told C4 = (refl, refl)
denied-told C5 = (refl, refl)
denied-told C6 = (refl, refl)
denied-told C7 = (refl, refl)
denied-told C8 = (refl, refl)
denied-told C9 = (refl, refl)
denied-told C10 = (refl, refl)
denied-told C11 = (refl, refl)
denied-told C12 = (refl, refl)
denied-told C13 = (refl, refl)
denied-told C14 = (refl, refl)
denied-told C15 = (refl, refl)
denied-told C16 = (refl, refl)
denied-told C17 = (refl, refl)
denied-told C18 = (refl, refl)
denied-told C19 = (refl, refl)
denied-told C20 = (refl, refl)
denied-told C21 = (refl, refl)
denied-told C22 = (refl, refl)
denied-told C23 = (refl, refl)
denied-told C24 = (refl, refl)
denied-told C25 = (refl, refl)
denied-told C26 = (refl, refl)
denied-told C27 = (refl, refl)
denied-told C28 = (refl, refl)

verdict-told : (v : Verdict) → IsTold v
unfolding IsTold is_plain verdict_of all digits
verdict-told Pending = (refl, refl)
verdict-told (Granted rule) = granted-told rule
verdict-told (Denied why) = denied-told why

verdict-one : (v w : Verdict) → verdict_text v ≡ verdict_text w → v ≡ w
unfolding IsTold
verdict-one v w e =
    let both : Some v ≡ Some w = sym (verdict-told v).1 ∙ ap verdict_of e ∙ (verdict-told w).1 in
    cc both

-- ---- four of them, with a comma behind each

-- what stands before the first comma, and what behind it
split-one : (u v x y : List ℕ) → is_plain u ≡ true → is_plain v ≡ true → u ++ 44 ∷ x ≡ v ++ 44 ∷ y → (u ≡ v) × (x ≡ y)
unfolding is_plain
split-one [] [] x y p q e = (refl, ap (drop 1) e)
split-one [] (b ∷ v) x y p q e = let h : 44 ≡ b = ap (λ (t : List ℕ). get_or t 0 0) e in absurd (cc (q, h))
split-one (a ∷ u) [] x y p q e = let h : a ≡ 44 = ap (λ (t : List ℕ). get_or t 0 0) e in absurd (cc (p, h))
split-one (a ∷ u) (b ∷ v) x y p q e =
    let h : a ≡ b = ap (λ (t : List ℕ). get_or t 0 0) e in
    let r = split-one u v x y (and_parts (not (a == 44)) (list_all (λ x. not (x == 44)) u) p).1 (and_parts (not (b == 44)) (list_all (λ x. not (x == 44)) v) q).1 (ap (drop 1) e) in
    (cc (h, r.0), r.1)

same-behind : (mid x y : List ℕ) → mid ++ x ≡ mid ++ y → x ≡ y
same-behind [] x y e = e
same-behind (a ∷ mid) x y e = same-behind mid x y (ap (drop 1) e)

verdict-split : (v w : Verdict) (mid x y : List ℕ) → verdict_text v ++ (44 ∷ (mid ++ x)) ≡ verdict_text w ++ (44 ∷ (mid ++ y)) → (v ≡ w) × (x ≡ y)
unfolding IsTold
verdict-split v w mid x y e =
    let r = split-one (verdict_text v) (verdict_text w) (mid ++ x) (mid ++ y) (verdict-told v).0 (verdict-told w).0 e in (verdict-one v w r.0, same-behind mid x y r.1)

-- what stands behind the verdict of read, of subscribe, and of publish
behind_publish : Four → List ℕ
behind_publish f = verdict_text f.own

behind_subscribe : Four → List ℕ
behind_subscribe f = verdict_text f.publish ++ (44 ∷ (codes " own " ++ behind_publish f))

behind_read : Four → List ℕ
behind_read f = verdict_text f.subscribe ++ (44 ∷ (codes " publish " ++ behind_subscribe f))

whole : Four → List ℕ
whole f = verdict_text f.read ++ (44 ∷ (codes " subscribe " ++ behind_read f))

whole-is : (f : Four) → four_text (Some f) ≡ codes "read " ++ whole f
unfolding whole behind_read behind_subscribe behind_publish
whole-is f = refl

same-read : (x y : Four) → whole x ≡ whole y → (x.read ≡ y.read) × (behind_read x ≡ behind_read y)
unfolding whole
same-read x y e = verdict-split x.read y.read (codes " subscribe ") (behind_read x) (behind_read y) e

same-subscribe : (x y : Four) → behind_read x ≡ behind_read y → (x.subscribe ≡ y.subscribe) × (behind_subscribe x ≡ behind_subscribe y)
unfolding behind_read
same-subscribe x y e = verdict-split x.subscribe y.subscribe (codes " publish ") (behind_subscribe x) (behind_subscribe y) e

same-publish : (x y : Four) → behind_subscribe x ≡ behind_subscribe y → (x.publish ≡ y.publish) × (behind_publish x ≡ behind_publish y)
unfolding behind_subscribe
same-publish x y e = verdict-split x.publish y.publish (codes " own ") (behind_publish x) (behind_publish y) e

same-own : (x y : Four) → behind_publish x ≡ behind_publish y → x.own ≡ y.own
unfolding behind_publish
same-own x y e = verdict-one x.own y.own e

pub same-four : (x y : Four) → x.read ≡ y.read → x.subscribe ≡ y.subscribe → x.publish ≡ y.publish → x.own ≡ y.own → x ≡ y
same-four x y a b c d = λ i. record { read = a i; subscribe = b i; publish = c i; own = d i }

whole-one : (x y : Four) → whole x ≡ whole y → x ≡ y
whole-one x y e =
    let a = same-read x y e in
    let b = same-subscribe x y a.1 in
    let c = same-publish x y b.1 in
    same-four x y a.0 b.0 c.0 (same-own x y c.1)

first : List ℕ → ℕ
first [] = 0
first (x ∷ xs) = x

none-some : (y : Four) → four_text None ≡ four_text (Some y) → ⊥
unfolding first
none-some y e = let h : 110 ≡ 114 = ap first e in absurd (cc h)

pub four-one : (x y : Option Four) → four_text x ≡ four_text y → x ≡ y
four-one None None e = refl
four-one None (Some y) e = absurd (none-some y e)
four-one (Some x) None e = absurd (none-some x (sym e))
four-one (Some x) (Some y) e = ap Some (whole-one x y (same-behind (codes "read ") (whole x) (whole y) (sym (whole-is x) ∙ e ∙ whole-is y)))
