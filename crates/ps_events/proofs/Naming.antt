-- The nodes of the names that features ask for.
use Rattle.std.proofs.Common.{◌≡◌, ◌≢◌, ◌<◌, ◌+◌, ℕ, Bool, true, false, ◌||◌, List, [], Option, Some, None, get_or, length, refl, sym, take, ap, ◌∙◌}
use Rattle.std.specs.Prelude.{bytes_eq, codes}
use Rattle.std.proofs.lemmas.List.{append_cancel_right}
use Rattle.std.proofs.lemmas.List.Folds.{list_any_more}
use Rattle.std.proofs.lemmas.Slice.Eq.{bytes_eq-Decides}
use Rattle.ps_types.specs.declared.rows.NodeRow.{NodeRow}
use Rattle.ps_types.specs.Resources.{notify_feature}
use Rattle.ps_nodes.specs.Named.{is_named}
use Rattle.ps_rows.specs.Standing.{passes_at}
use Rattle.ps_events.specs.Wanted.{asks_for, is_asked_for}

pub name-asked : (name asked feature : List ℕ) → feature ≡ notify_feature asked → bytes_eq name asked ≡ bytes_eq (notify_feature name) feature
name-asked name asked feature is = by (bytes_eq name asked) refl (bytes_eq (notify_feature name) feature) refl
  where
    by : (c : Bool) → bytes_eq name asked ≡ c → (d : Bool) → bytes_eq (notify_feature name) feature ≡ d → c ≡ d
    by true h true k = refl
    by true h false k =
        let same : notify_feature name ≡ feature = ap notify_feature ((bytes_eq-Decides name asked).0 h) ∙ sym is in
        sym ((bytes_eq-Decides (notify_feature name) feature).1 same) ∙ k
    by false h true k =
        let same : name ≡ asked = append_cancel_right name asked (codes "+notify") ((bytes_eq-Decides (notify_feature name) feature).0 k ∙ is) in
        sym h ∙ (bytes_eq-Decides name asked).1 same
    by false h false k = refl

pub none-asked : (name feature : List ℕ) → ((asked : List ℕ) → feature ≢ notify_feature asked) → bytes_eq (notify_feature name) feature ≡ false
none-asked name feature none = by (bytes_eq (notify_feature name) feature) refl
  where
    by : (b : Bool) → bytes_eq (notify_feature name) feature ≡ b → b ≡ false
    by false k = refl
    by true k = absurd (none name (sym ((bytes_eq-Decides (notify_feature name) feature).0 k)))

-- ---- what is at a place

-- the name that the feature asks for
pub at-named : (asked feature : List ℕ) → feature ≡ notify_feature asked → (o : Option NodeRow) → passes_at (is_named asked) o ≡ passes_at (asks_for feature) o
at-named asked feature is None = refl
at-named asked feature is (Some row) = name-asked row.key.name asked feature is

-- it asks for none
pub at-none : (feature : List ℕ) → ((asked : List ℕ) → feature ≢ notify_feature asked) → (o : Option NodeRow) → passes_at (asks_for feature) o ≡ false
at-none feature none None = refl
at-none feature none (Some row) = none-asked row.key.name feature none

-- no feature asks
pub at-nothing : (o : Option NodeRow) → false ≡ passes_at (is_asked_for []) o
at-nothing None = refl
at-nothing (Some row) = refl

-- one feature more
pub at-more : (features : List (List ℕ)) (i : ℕ) (d : List ℕ) → i < length features → (o : Option NodeRow)
    → passes_at (is_asked_for (take (i + 1) features)) o ≡ (passes_at (is_asked_for (take i features)) o || passes_at (asks_for (get_or features i d)) o)
at-more features i d less None = refl
at-more features i d less (Some row) = list_any_more (λ feature. asks_for feature row) features i d less

or-none : (b : Bool) → (b || false) ≡ b
or-none true = refl
or-none false = refl

-- nothing is put
pub or-nothing : (b c : Bool) → c ≡ false → b ≡ (b || c)
or-nothing b c e = sym (ap (λ d. b || d) e ∙ or-none b)

pub or-swap : (a b : Bool) → (a || b) ≡ (b || a)
or-swap true true = refl
or-swap true false = refl
or-swap false b = sym (or-none b)

pub or-three : (a b c : Bool) → ((a || b) || c) ≡ (a || (b || c))
or-three true b c = refl
or-three false b c = refl
