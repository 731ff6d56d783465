-- Wants stay those of the resources as a row is set and as rows go.
use Rattle.std.proofs.Common.{◌≡◌, ℕ, Bool, true, false, cond, not, ◌&&◌, ◌||◌, List, [], ◌∷◌, Option, Some, None, refl, ap, sym, subst, ◌∙◌}
use Rattle.std.specs.Prelude.{find, bytes_eq}
use Rattle.std.specs.List.{list_any}
use Rattle.std.proofs.lemmas.Slice.Eq.{bytes_eq-Decides}
use Rattle.ps_base.specs.Rows.{put_row, without}
use Rattle.ps_types.specs.declared.jid.Jid.{Jid}
use Rattle.ps_types.specs.declared.rows.ResourceRow.{ResourceRow}
use Rattle.ps_types.specs.Resources.{features_in, is_resource_of, notify_feature, resource_at, resources_off, resources_with, resources_without, wants}
use Rattle.ps_types.specs.Same.{same_jid}
use Rattle.ps_types.proofs.Same.{same_jid-Decides}
use Rattle.ps_filter.specs.declared.want.Want.{Want}
use Rattle.ps_filter.specs.Wants.{is_want, is_want_for, is_want_of, is_want_on, is_wanted, asks_for, SetsWants, AreWants}

-- ---- rows that go, and a row that is set

module _ {R : Type 0} (f g : R → Bool) where
  -- where all rows that pass go, none is found
  find_gone : ((x : R) → g x ≡ true → f x ≡ true) → (xs : List R) → find g (without f xs) ≡ None
  find_gone h [] = refl
  find_gone h (x ∷ xs) = by (f x) (g x) refl refl (find_gone h xs)
    where
      by : (b c : Bool) → f x ≡ b → g x ≡ c → find g (without f xs) ≡ None → find g (cond (not b) (x ∷ without f xs) (without f xs)) ≡ None
      by true c p q more = more
      by false true p q more = absurd (cc (p, h x q))
      by false false p q more = rw q more

  -- where none of them goes, the same is found
  find_stays : ((x : R) → f x ≡ true → g x ≡ false) → (xs : List R) → find g (without f xs) ≡ find g xs
  find_stays h [] = refl
  find_stays h (x ∷ xs) = by (f x) refl (find_stays h xs)
    where
      by : (b : Bool) → f x ≡ b → find g (without f xs) ≡ find g xs → find g (cond (not b) (x ∷ without f xs) (without f xs)) ≡ cond (g x) (Some x) (find g xs)
      by true p more = rw (h x p) more
      by false p more = ap (cond (g x) (Some x)) more

  any_gone : ((x : R) → g x ≡ true → f x ≡ true) → (xs : List R) → list_any g (without f xs) ≡ false
  any_gone h [] = refl
  any_gone h (x ∷ xs) = by (f x) (g x) refl refl (any_gone h xs)
    where
      by : (b c : Bool) → f x ≡ b → g x ≡ c → list_any g (without f xs) ≡ false → list_any g (cond (not b) (x ∷ without f xs) (without f xs)) ≡ false
      by true c p q more = more
      by false true p q more = absurd (cc (p, h x q))
      by false false p q more = rw q more

  any_stays : ((x : R) → f x ≡ true → g x ≡ false) → (xs : List R) → list_any g (without f xs) ≡ list_any g xs
  any_stays h [] = refl
  any_stays h (x ∷ xs) = by (f x) refl (any_stays h xs)
    where
      by : (b : Bool) → f x ≡ b → list_any g (without f xs) ≡ list_any g xs → list_any g (cond (not b) (x ∷ without f xs) (without f xs)) ≡ (g x || list_any g xs)
      by true p more = rw (h x p) more
      by false p more = ap (λ b. g x || b) more

  put_stays : (row : R) → g row ≡ false → ((x : R) → f x ≡ true → g x ≡ false) → (xs : List R) → find g (put_row f row xs) ≡ find g xs
  put_stays row r h [] = rw r refl
  put_stays row r h (x ∷ xs) = by (f x) refl (put_stays row r h xs)
    where
      by : (b : Bool) → f x ≡ b → find g (put_row f row xs) ≡ find g xs → find g (cond b (row ∷ xs) (x ∷ put_row f row xs)) ≡ cond (g x) (Some x) (find g xs)
      by true p more = rw (r, h x p) refl
      by false p more = ap (cond (g x) (Some x)) more

module _ {R : Type 0} (f : R → Bool) where
  put_found : (row : R) → f row ≡ true → (xs : List R) → find f (put_row f row xs) ≡ Some row
  put_found row r [] = rw r refl
  put_found row r (x ∷ xs) = by (f x) refl (put_found row r xs)
    where
      by : (b : Bool) → f x ≡ b → find f (put_row f row xs) ≡ Some row → find f (cond b (row ∷ xs) (x ∷ put_row f row xs)) ≡ Some row
      by true p more = rw r refl
      by false p more = rw p more

-- ---- addresses

is_same : (a b : Jid) → same_jid a b ≡ true → a ≡ b
is_same a b h = (same_jid-Decides a b).0 h

itself : (a : Jid) → same_jid a a ≡ true
itself a = (same_jid-Decides a a).1 refl

first_part : (a b : Bool) → (a && b) ≡ true → a ≡ true
first_part true b h = refl
first_part false b h = h

not_first : (a b : Bool) → a ≡ false → (a && b) ≡ false
not_first true b h = absurd (cc)
not_first false b h = refl

no_feature : (name : List ℕ) (o : Option ResourceRow) → o ≡ None → list_any (bytes_eq (notify_feature name)) (features_in o) ≡ false
no_feature name None h = refl
no_feature name (Some row) h = absurd (cc)

-- ---- resources that go, where their address passes a test

module _ (p : Jid → Bool) where
  wanted_by : (other : Jid) (name : List ℕ) (b : Bool) → p other ≡ b → (rows : List Want) → is_wanted other name (without (λ want. p want.who) rows) ≡ cond b false (is_wanted other name rows)
  wanted_by other name true e rows =
      any_gone (λ want. p want.who) (is_want other name) (λ want h. let s : other ≡ want.who = is_same other want.who (first_part (is_want_of other want) (is_want_for name want) h) in ap p (sym s) ∙
      e) rows
  wanted_by other name false e rows = any_stays (λ want. p want.who) (is_want other name) (λ want h. apart want h (is_want other name want) refl) rows
    where
      apart : (want : Want) → p want.who ≡ true → (c : Bool) → is_want other name want ≡ c → c ≡ false
      apart want h true k = let s : other ≡ want.who = is_same other want.who (first_part (is_want_of other want) (is_want_for name want) k) in let t : p other ≡ true = ap p s ∙ h in absurd
          (cc (e, t))
      apart want h false k = refl

  -- who goes wants nothing, and the others what they wanted
  pub wanted-without : (other : Jid) (name : List ℕ) (rows : List Want) → is_wanted other name (without (λ want. p want.who) rows) ≡ cond (p other) false (is_wanted other name rows)
  wanted-without other name rows = wanted_by other name (p other) refl rows

  wants_by : (other : Jid) (name : List ℕ) (b : Bool) → p other ≡ b → (rows : List ResourceRow) → wants other name (without (λ row. p row.who) rows) ≡ cond b false (wants other name rows)
  wants_by other name true e rows =
      no_feature name (resource_at other (without (λ row. p row.who) rows))
      (find_gone (λ row. p row.who) (is_resource_of other) (λ row h. let s : other ≡ row.who = is_same other row.who h in ap p (sym s) ∙ e) rows)
  wants_by other name false e rows =
      ap (λ o. list_any (bytes_eq (notify_feature name)) (features_in o)) (find_stays (λ row. p row.who) (is_resource_of other) (λ row h. apart row h (same_jid other row.who) refl) rows)
    where
      apart : (row : ResourceRow) → p row.who ≡ true → (c : Bool) → same_jid other row.who ≡ c → c ≡ false
      apart row h true k = let s : other ≡ row.who = is_same other row.who k in let t : p other ≡ true = ap p s ∙ h in absurd (cc (e, t))
      apart row h false k = refl

  pub follow-without : (rows : List Want) (resources : List ResourceRow) → AreWants rows resources → AreWants (without (λ want. p want.who) rows) (without (λ row. p row.who) resources)
  follow-without rows resources are = λ other name. wanted-without other name rows ∙ (ap (cond (p other) false) (are other name) ∙ sym (wants_by other name (p other) refl resources))

-- ---- a resource that is set

set_by : (row : ResourceRow) (other : Jid) (name : List ℕ) (b : Bool) → same_jid row.who other ≡ b → (resources : List ResourceRow)
    → wants other name (resources_with row resources) ≡ cond b (asks_for name row.features) (wants other name resources)
set_by row other name true e resources =
    let s : row.who ≡ other = is_same row.who other e in
    subst (λ j. wants j name (resources_with row resources) ≡ asks_for name row.features) s
    (ap (λ o. list_any (bytes_eq (notify_feature name)) (features_in o)) (put_found (is_resource_of row.who) row (itself row.who) resources))
set_by row other name false e resources =
    ap (λ o. list_any (bytes_eq (notify_feature name)) (features_in o))
    (put_stays (is_resource_of row.who) (is_resource_of other) row (apart row (same_jid other row.who) refl (itself row.who)) (λ x h. apart x (same_jid other x.who) refl h) resources)
  where
    apart : (x : ResourceRow) (c : Bool) → same_jid other x.who ≡ c → same_jid row.who x.who ≡ true → c ≡ false
    apart x true k h =
        let s : other ≡ x.who = is_same other x.who k in
        let t : row.who ≡ x.who = is_same row.who x.who h in
        let u : same_jid row.who other ≡ true = (same_jid-Decides row.who other).1 (t ∙ sym s) in
        absurd (cc (e, u))
    apart x false k h = refl

pub follow-set : (who : Jid) (features : List (List ℕ)) (old new : List Want) (resources : List ResourceRow) (row : ResourceRow) → SetsWants who features old new → AreWants old resources
    → row.who ≡ who → row.features ≡ features
    → AreWants new (resources_with row resources)
follow-set who features old new resources row sets are w f = λ other name.
    subst (λ j. is_wanted other name new ≡ cond (same_jid j other) (asks_for name features) (is_wanted other name old)) (sym w) (sets other name)
    ∙ (ap (λ fs. cond (same_jid row.who other) (asks_for name fs) (is_wanted other name old)) (sym f)
    ∙ (ap (cond (same_jid row.who other) (asks_for name row.features)) (are other name) ∙ sym (set_by row other name (same_jid row.who other) refl resources)))

-- ---- what goes and what comes

joined : (c a old : Bool) → (cond c false old || (c && a)) ≡ cond c a old
joined true a old = refl
joined false a true = refl
joined false a false = refl

-- where a resource's wants go, and those come that its features ask for
pub set-wants : (who : Jid) (features : List (List ℕ)) (old left more new : List Want) → left ≡ without (is_want_of who) old
    → ((other : Jid) (name : List ℕ) → is_wanted other name more ≡ (same_jid who other && asks_for name features))
    → ((other : Jid) (name : List ℕ) → is_wanted other name new ≡ (is_wanted other name left || is_wanted other name more)) → SetsWants who features old new
set-wants who features old left more new gone comes both = λ other name.
    let l : is_wanted other name left ≡ cond (same_jid who other) false (is_wanted other name old) = ap (is_wanted other name) gone ∙ wanted-without (same_jid who) other name old in
    both other name ∙ (ap (λ b. b || is_wanted other name more) l ∙
    (ap (λ b. cond (same_jid who other) false (is_wanted other name old) || b) (comes other name) ∙ joined (same_jid who other) (asks_for name features) (is_wanted other name old)))
