-- What a history tells of each place, and how it goes on.
use Rattle.std.proofs.Common.{◌≡◌, ◌⊎◌, inl, inr, ℕ, zero, suc, ◌≤◌, ◌<◌, arith, Bool, true, false, not, List, [], ◌∷◌, ◌++◌, length, map, Option, None, refl, sym, ap, ◌∙◌}
use Rattle.std.specs.Prelude.{filter, nat_le, cond}
use Rattle.std.specs.Str.{bytes_eq}
use Rattle.std.proofs.lemmas.Bool.Decides.{nat_tests}
use Rattle.std.proofs.lemmas.Slice.Eq.{bytes_eq-Decides}
use Rattle.std.proofs.lemmas.List.{map-append}
use Rattle.ps_types.specs.declared.entry.Entry.{Entry}
use Rattle.ps_types.specs.declared.jid.Jid.{Jid}
use Rattle.ps_types.specs.declared.node.NodeKey.{NodeKey}
use Rattle.ps_audit_laws.specs.declared.told.ExplainLine.{ExplainLine}
use Rattle.ps_audit_laws.specs.declared.told.Four.{Four}
use Rattle.ps_audit_laws.specs.History.{history, is_told, line_after, places, told_at, told_from, verdicts_after}
use Rattle.ps_audit_laws.specs.Verdicts.{four_text}
use Rattle.ps_audit_laws.proofs.Texts.{four-one}

told-append : (found : Option Four) (p : ℕ) (xs ys : List ExplainLine) → told_from found p (xs ++ ys) ≡ told_from (told_from found p xs) p ys
told-append found p [] ys = refl
told-append found p (x ∷ xs) ys = told-append (cond (nat_le x.after p) x.four found) p xs ys

filter-append : (q : ℕ → Bool) (xs ys : List ℕ) → filter q (xs ++ ys) ≡ filter q xs ++ filter q ys
filter-append q [] ys = refl
filter-append q (x ∷ xs) ys = by (q x) (filter-append q xs ys)
  where
    by : (b : Bool) → filter q (xs ++ ys) ≡ filter q xs ++ filter q ys → cond b (x ∷ filter q (xs ++ ys)) (filter q (xs ++ ys)) ≡ cond b (x ∷ filter q xs) (filter q xs) ++ filter q ys
    by true h = ap (λ zs. x ∷ zs) h
    by false h = h

same-text : (x y : Option Four) → not (bytes_eq (four_text x) (four_text y)) ≡ false → x ≡ y
same-text x y h = by (bytes_eq (four_text x) (four_text y)) refl h
  where
    by : (b : Bool) → bytes_eq (four_text x) (four_text y) ≡ b → not b ≡ false → x ≡ y
    by true e h = four-one x y ((bytes_eq-Decides (four_text x) (four_text y)).0 e)
    by false e h = absurd (cc h)

pub stays : (x y : Option Four) → x ≡ y → not (bytes_eq (four_text x) (four_text y)) ≡ false
stays x y e = ap not ((bytes_eq-Decides (four_text x) (four_text y)).1 (ap four_text e))

module _ (E : List Entry) (who : Jid) (node : NodeKey) where
  pub quiet : (p : ℕ) → is_told E who node (suc p) ≡ false → verdicts_after E who node (suc p) ≡ verdicts_after E who node p
  quiet p h = same-text (verdicts_after E who node (suc p)) (verdicts_after E who node p) h

  abbrev pub lines : ℕ → List ExplainLine
  lines n = map (line_after E who node) (filter (is_told E who node) (places n))

  abbrev pub last : Bool → ℕ → List ExplainLine
  last b p = map (line_after E who node) (cond b (p ∷ []) [])

  pub lines-more : (n : ℕ) → lines (suc n) ≡ lines n ++ last (is_told E who node (suc n)) (suc n)
  lines-more n =
      ap (map (line_after E who node)) (filter-append (is_told E who node) (places n) (suc n ∷ []))
      ∙ map-append (line_after E who node) (filter (is_told E who node) (places n)) (filter (is_told E who node) (suc n ∷ []))

  below : (p q : ℕ) → q ≤ p → nat_le q p ≡ true
  below p q h = grind (arith, nat_tests)

  above : (p q : ℕ) → p < q → nat_le q p ≡ false
  above p q h = grind (arith, nat_tests)

  newest : (n p : ℕ) (b : Bool) → is_told E who node (suc n) ≡ b → suc n ≤ p → told_from (verdicts_after E who node n) p (last b (suc n)) ≡ verdicts_after E who node (suc n)
  newest n p true e h = ap (λ c. cond c (verdicts_after E who node (suc n)) (verdicts_after E who node n)) (below p (suc n) h)
  newest n p false e h = sym (quiet n e)

  older : (found : Option Four) (n p : ℕ) (b : Bool) → p < suc n → told_from found p (last b (suc n)) ≡ found
  older found n p true h = ap (λ c. cond c (verdicts_after E who node (suc n)) found) (above p (suc n) h)
  older found n p false h = refl

  told-whole : (n p : ℕ) → n ≤ p → told_from None p (lines n) ≡ verdicts_after E who node n
  told-whole zero p h = ap (λ c. cond c (verdicts_after E who node zero) None) (below p zero h)
  told-whole (suc n) p h =
      let b = is_told E who node (suc n) in
      ap (told_from None p) (lines-more n) ∙ told-append None p (lines n) (last b (suc n))
      ∙ ap (λ f. told_from f p (last b (suc n))) (told-whole n p (omega (arith, h))) ∙ newest n p b refl h

  told-within : (n p : ℕ) → p ≤ n → told_from None p (lines n) ≡ verdicts_after E who node p
  told-within zero p h = let e : p ≡ zero = omega (arith, h) in told-whole zero p (omega arith) ∙ ap (verdicts_after E who node) (sym e)
  told-within (suc n) p h = by (split p n h) (told-within n p)
    where
      split : (p n : ℕ) → p ≤ suc n → (p ≡ suc n) ⊎ (p ≤ n)
      split p n h = grind (arith, h)

      by : (p ≡ suc n) ⊎ (p ≤ n) → (p ≤ n → told_from None p (lines n) ≡ verdicts_after E who node p) → told_from None p (lines (suc n)) ≡ verdicts_after E who node p
      by (inl e) more = told-whole (suc n) p (omega (arith, e)) ∙ ap (verdicts_after E who node) (sym e)
      by (inr le) more =
          let b = is_told E who node (suc n) in
          ap (told_from None p) (lines-more n) ∙ told-append None p (lines n) (last b (suc n))
          ∙ older (told_from None p (lines n)) n p b (omega (arith, le)) ∙ more le

  pub told-each : (p : ℕ) → p ≤ length E → told_at p (history E who node) ≡ verdicts_after E who node p
  told-each p h = told-within (length E) p h
