-- What features ask for, one feature after the other.
use Rattle.std.proofs.Common.{◌≡◌, ◌≢◌, ◌+◌, ◌<◌, ℕ, zero, suc, Bool, true, false, ◌&&◌, ◌||◌, List, [], ◌∷◌, ◌++◌, Option, Some, None, refl, ap, sym, subst, ◌∙◌, take, length, get_or, arith}
use Rattle.std.specs.Prelude.{bytes_eq, codes, slice_get}
use Rattle.std.specs.List.{list_any}
use Rattle.std.proofs.lemmas.List.{append_cancel_right}
use Rattle.std.proofs.lemmas.List.Folds.{list_any-append}
use Rattle.std.proofs.lemmas.Slice.Eq.{bytes_eq-Decides}
use Rattle.ps_types.specs.declared.jid.Jid.{Jid}
use Rattle.ps_types.specs.Resources.{notify_feature}
use Rattle.ps_types.specs.Same.{same_jid}
use Rattle.ps_types.proofs.Same.{same_jid-Decides}
use Rattle.ps_filter.specs.declared.want.Want.{Want}
use Rattle.ps_filter.specs.Wants.{is_want, is_wanted, asks_for}

-- two features ask for nodes of one name where they are one
same_name : (a b : List ℕ) → bytes_eq (notify_feature a) (notify_feature b) ≡ bytes_eq a b
same_name a b = by (bytes_eq a b) refl (bytes_eq (notify_feature a) (notify_feature b)) refl
  where
    by : (c : Bool) → bytes_eq a b ≡ c → (d : Bool) → bytes_eq (notify_feature a) (notify_feature b) ≡ d → d ≡ c
    by true h true k = refl
    by true h false k =
        let e : a ≡ b = (bytes_eq-Decides a b).0 h in
        let t : bytes_eq (notify_feature a) (notify_feature b) ≡ true = (bytes_eq-Decides (notify_feature a) (notify_feature b)).1 (ap notify_feature e) in
        sym k ∙ t
    by false h true k =
        let e : a ≡ b = append_cancel_right a b (codes "+notify") ((bytes_eq-Decides (notify_feature a) (notify_feature b)).0 k) in
        let t : bytes_eq a b ≡ true = (bytes_eq-Decides a b).1 e in
        sym t ∙ h
    by false h false k = refl

same_back : (a b : Jid) → same_jid a b ≡ same_jid b a
same_back a b = by (same_jid a b) refl (same_jid b a) refl
  where
    by : (c : Bool) → same_jid a b ≡ c → (d : Bool) → same_jid b a ≡ d → c ≡ d
    by true h true k = refl
    by true h false k = sym ((same_jid-Decides b a).1 (sym ((same_jid-Decides a b).0 h))) ∙ k
    by false h true k = sym h ∙ (same_jid-Decides a b).1 (sym ((same_jid-Decides b a).0 k))
    by false h false k = refl

any-push : {X : Type 0} (h : X → Bool) (xs : List X) (x : X) → list_any h (xs ++ x ∷ []) ≡ (list_any h xs || h x)
any-push h xs x = list_any-append h xs (x ∷ []) ∙ ap (λ b. list_any h xs || b) (by (h x))
  where
    by : (b : Bool) → (b || false) ≡ b
    by true = refl
    by false = refl

-- one feature more
pub asks_more : (name feature : List ℕ) (features : List (List ℕ)) (at : ℕ) → slice_get features at ≡ Some feature
    → asks_for name (take (suc at) features) ≡ (asks_for name (take at features) || bytes_eq (notify_feature name) feature)
asks_more name feature [] at h = absurd (cc)
asks_more name feature (x ∷ xs) zero h = let e : x ≡ feature = cc in ap (λ f. bytes_eq (notify_feature name) f || false) e ∙ by (bytes_eq (notify_feature name) feature)
  where
    by : (b : Bool) → (b || false) ≡ (false || b)
    by true = refl
    by false = refl
asks_more name feature (x ∷ xs) (suc at) h = ap (λ b. bytes_eq (notify_feature name) x || b) (asks_more name feature xs at h) ∙ by (bytes_eq (notify_feature name) x)
  where
    by : (b : Bool) → (b || (asks_for name (take at xs) || bytes_eq (notify_feature name) feature)) ≡ ((b || asks_for name (take at xs)) || bytes_eq (notify_feature name) feature)
    by true = refl
    by false = refl

asks_next : (name feature : List ℕ) (features : List (List ℕ)) (at : ℕ) → slice_get features at ≡ Some feature
    → asks_for name (take (at + 1) features) ≡ (asks_for name (take at features) || bytes_eq (notify_feature name) feature)
asks_next name feature features at h =
    let e : suc at ≡ at + 1 = omega arith in
    subst (λ n. asks_for name (take n features) ≡ (asks_for name (take at features) || bytes_eq (notify_feature name) feature)) e (asks_more name feature features at h)

-- the item at a place
pub at_place : {X : Type 0} (xs : List X) (at : ℕ) (x : X) → at < length xs → x ≡ get_or xs at x → slice_get xs at ≡ Some x
at_place [] at x l h = absurd (omega (arith, l))
at_place (y ∷ ys) zero x l h = ap Some (sym h)
at_place (y ∷ ys) (suc at) x l h = at_place ys at x (omega (arith, l)) h

shared : (s a b : Bool) → ((s && a) || (s && b)) ≡ (s && (a || b))
shared true a b = refl
shared false a b = refl

-- it asks for the nodes of a name
pub wanted_more : (who other : Jid) (name got : List ℕ) (feature : List ℕ) (features : List (List ℕ)) (rows : List Want) (at : ℕ) → slice_get features at ≡ Some feature → feature ≡ notify_feature got
    → is_wanted other name rows ≡ (same_jid who other && asks_for name (take at features))
    → is_wanted other name (rows ++ record { who = who; name = got } ∷ []) ≡ (same_jid who other && asks_for name (take (at + 1) features))
wanted_more who other name got feature features rows at h e before =
    let one : is_want other name (record { who = who; name = got }) ≡ (same_jid who other && bytes_eq (notify_feature name) feature) =
    ap (λ b. b && bytes_eq name got) (same_back other who) ∙ ap (λ b. same_jid who other && b) (sym (same_name name got) ∙ ap (bytes_eq (notify_feature name)) (sym e)) in
    any-push (is_want other name) rows (record { who = who; name = got })
    ∙ (ap (λ b. b || is_want other name (record { who = who; name = got })) before
    ∙ (ap (λ b. (same_jid who other && asks_for name (take at features)) || b) one
    ∙ (shared (same_jid who other) (asks_for name (take at features)) (bytes_eq (notify_feature name) feature) ∙ ap (λ b. same_jid who other && b) (sym (asks_next name feature features at h)))))

not_it : (name feature : List ℕ) → ((got : List ℕ) → feature ≢ notify_feature got) → (b : Bool) → bytes_eq (notify_feature name) feature ≡ b → b ≡ false
not_it name feature none true h = absurd (none name (sym ((bytes_eq-Decides (notify_feature name) feature).0 h)))
not_it name feature none false h = refl

or_false : (a b : Bool) → b ≡ false → (a || b) ≡ a
or_false true b h = refl
or_false false b h = h

-- it asks for none
pub wanted_same : (who other : Jid) (name feature : List ℕ) (features : List (List ℕ)) (rows : List Want) (at : ℕ) → slice_get features at ≡ Some feature
    → ((got : List ℕ) → feature ≢ notify_feature got)
    → is_wanted other name rows ≡ (same_jid who other && asks_for name (take at features)) → is_wanted other name rows ≡ (same_jid who other && asks_for name (take (at + 1) features))
wanted_same who other name feature features rows at h none before =
    before ∙ ap (λ b. same_jid who other && b) (sym (asks_next name feature features at h ∙ or_false (asks_for name (take at features)) (bytes_eq (notify_feature name) feature)
    (not_it name feature none (bytes_eq (notify_feature name) feature) refl)))
