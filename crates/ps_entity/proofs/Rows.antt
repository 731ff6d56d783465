-- Whether rows are others after one is set or taken away.
use Rattle.std.proofs.Common.{◌≡◌, suc, ◌≤◌, Bool, true, false, cond, not, ◌&&◌, List, [], ◌∷◌, length, Option, Some, None, refl, sym, ap, subst, ◌∙◌, arith}
use Rattle.std.specs.Borrow.{Bor}
use Rattle.std.specs.Prelude.{find, is_some, option_copied}
use Rattle.std.specs.Cmp.Lexicographic.{pointwise, unequal}
use Rattle.ps_base.specs.Rows.{put_row, without}

-- the row that is there is the same
abbrev is_kept : {R : Type 0} → (R → R → Bool) → R → Option R → Bool
is_kept same row None = false
is_kept same row (Some old) = same row old

and-true : (b : Bool) → (b && true) ≡ b
and-true true = refl
and-true false = refl

-- whether there is a row behind the reference
pub copied-some : {R : Type 0} (o : Option (Bor R)) → is_some o ≡ is_some (option_copied o)
copied-some None = refl
copied-some (Some row) = refl

twice : (b : Bool) → b ≡ not (not b)
twice true = refl
twice false = refl

module _ {R : Type 0} (same : R → R → Bool) (itself : (x : R) → same x x ≡ true) (test : R → Bool) where
  pub all_same : (xs : List R) → pointwise same xs xs ≡ true
  all_same [] = refl
  all_same (x ∷ xs) = rw (itself x) (all_same xs)

  put_step : (row x : R) (xs : List R) (b : Bool) → pointwise same (put_row test row xs) xs ≡ is_kept same row (find test xs)
      → pointwise same (cond b (row ∷ xs) (x ∷ put_row test row xs)) (x ∷ xs) ≡ is_kept same row (cond b (Some x) (find test xs))
  put_step row x xs true more = rw (all_same xs) (and-true (same row x))
  put_step row x xs false more = rw (itself x) more

  -- where a row is set the rows stay exactly where it is there already
  put_kept : (row : R) (rows : List R) → pointwise same (put_row test row rows) rows ≡ is_kept same row (find test rows)
  put_kept row [] = refl
  put_kept row (x ∷ xs) = put_step row x xs (test x) (put_kept row xs)

  fewer_step : (x : R) (xs : List R) (b : Bool) → length (without test xs) ≤ length xs → length (cond (not b) (x ∷ without test xs) (without test xs)) ≤ suc (length xs)
  fewer_step x xs true more = omega arith
  fewer_step x xs false more = omega arith

  fewer : (xs : List R) → length (without test xs) ≤ length xs
  fewer [] = omega arith
  fewer (x ∷ xs) = fewer_step x xs (test x) (fewer xs)

  gone_step : (x : R) (xs : List R) (b : Bool) → pointwise same (without test xs) xs ≡ not (is_some (find test xs))
      → pointwise same (cond (not b) (x ∷ without test xs) (without test xs)) (x ∷ xs) ≡ not (is_some (cond b (Some x) (find test xs)))
  gone_step x xs true more = unequal same (without test xs) (x ∷ xs) (λ e. let few : length (without test xs) ≤ length xs = fewer xs in absurd (omega arith))
  gone_step x xs false more = rw (itself x) more

  -- where rows are taken away they stay exactly where none passes
  without_kept : (rows : List R) → pointwise same (without test rows) rows ≡ not (is_some (find test rows))
  without_kept [] = refl
  without_kept (x ∷ xs) = gone_step x xs (test x) (without_kept xs)

  -- a row that is there in another form changes, and another one is added
  pub put-changes : (row old : R) (rows : List R) → Some old ≡ find test rows → not (same row old) ≡ not (pointwise same (put_row test row rows) rows)
  put-changes row old rows h = ap not (ap (is_kept same row) h ∙ sym (put_kept row rows))

  pub put-adds : (row : R) (rows : List R) → None ≡ find test rows → true ≡ not (pointwise same (put_row test row rows) rows)
  put-adds row rows h = ap not (ap (is_kept same row) h ∙ sym (put_kept row rows))

  -- a removal changes the rows where one passes
  pub removal-changes : (rows : List R) → is_some (find test rows) ≡ not (pointwise same (without test rows) rows)
  removal-changes rows = twice (is_some (find test rows)) ∙ ap not (sym (without_kept rows))

module _ {R : Type 0} (test : R → Bool) where
  passes_step : (b : Bool) (x : R) (xs : List R) (row : R) → test x ≡ b → (find test xs ≡ Some row → test row ≡ true) → cond b (Some x) (find test xs) ≡ Some row → test row ≡ true
  passes_step true x xs row t more h = let e : x ≡ row = cc in subst (λ (y : R). test y ≡ true) e t
  passes_step false x xs row t more h = more h

  -- what is found passes
  pub find-passes : (rows : List R) (row : R) → find test rows ≡ Some row → test row ≡ true
  find-passes [] row h = absurd (cc)
  find-passes (x ∷ xs) row h = passes_step (test x) x xs row refl (find-passes xs row) h
