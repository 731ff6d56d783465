-- What searches find after a row is put or rows go, and one step more of a walk.
use Rattle.std.proofs.Common.{◌≡◌, ℕ, ◌+◌, ◌<◌, Bool, true, false, cond, not, List, [], ◌∷◌, ◌++◌, Option, Some, None, get_or, length, refl, sym, take, ap, ap₂, ◌∙◌}
use Rattle.std.specs.Prelude.{find, filter, map}
use Rattle.std.proofs.lemmas.List.{append_assoc, take_more}
use Rattle.ps_base.specs.Rows.{put_row, without}

module _ {R : Type 0} (p : R → Bool) where
  put-step : (row : R) → p row ≡ true → (x : R) (xs : List R) (b : Bool) → p x ≡ b → find p (put_row p row xs) ≡ Some row → find p (cond b (row ∷ xs) (x ∷ put_row p row xs)) ≡ Some row
  put-step row is x xs true t more = rw is refl
  put-step row is x xs false t more = rw t more

  -- the row that is put is found
  pub find-put : (row : R) → p row ≡ true → (xs : List R) → find p (put_row p row xs) ≡ Some row
  find-put row is [] = rw is refl
  find-put row is (x ∷ xs) = put-step row is x xs (p x) refl (find-put row is xs)

  gone-step : (x : R) (xs : List R) (b : Bool) → p x ≡ b → find p (without p xs) ≡ None → find p (cond (not b) (x ∷ without p xs) (without p xs)) ≡ None
  gone-step x xs true t more = more
  gone-step x xs false t more = rw t more

  -- a row that is gone isn't found
  pub find-gone : (xs : List R) → find p (without p xs) ≡ None
  find-gone [] = refl
  find-gone (x ∷ xs) = gone-step x xs (p x) refl (find-gone xs)

  -- another search finds what it found
  module _ (q : R → Bool) (other : (x : R) → p x ≡ true → q x ≡ false) where
    put-other-step : (row : R) → q row ≡ false → (x : R) (xs : List R) (b : Bool) → p x ≡ b → find q (put_row p row xs) ≡ find q xs
        → find q (cond b (row ∷ xs) (x ∷ put_row p row xs)) ≡ cond (q x) (Some x) (find q xs)
    put-other-step row isnt x xs true t more = let no = other x t in rw (isnt, no) refl
    put-other-step row isnt x xs false t more = ap (λ (o : Option R). cond (q x) (Some x) o) more

    pub find-put-other : (row : R) → q row ≡ false → (xs : List R) → find q (put_row p row xs) ≡ find q xs
    find-put-other row isnt [] = rw isnt refl
    find-put-other row isnt (x ∷ xs) = put-other-step row isnt x xs (p x) refl (find-put-other row isnt xs)

    gone-other-step : (x : R) (xs : List R) (b : Bool) → p x ≡ b → find q (without p xs) ≡ find q xs → find q (cond (not b) (x ∷ without p xs) (without p xs)) ≡ cond (q x) (Some x) (find q xs)
    gone-other-step x xs true t more = let no = other x t in rw no more
    gone-other-step x xs false t more = ap (λ (o : Option R). cond (q x) (Some x) o) more

    pub find-gone-other : (xs : List R) → find q (without p xs) ≡ find q xs
    find-gone-other [] = refl
    find-gone-other (x ∷ xs) = gone-other-step x xs (p x) refl (find-gone-other xs)

-- one more of those that pass
pub chosen-push : {X Y : Type 0} (f : X → Y) (p : X → Bool) (xs : List X) (x : X) → map f (filter p (xs ++ x ∷ [])) ≡ map f (filter p xs) ++ cond (p x) (f x ∷ []) []
chosen-push f p [] x = at (p x)
  where
    at : (b : Bool) → map f (cond b (x ∷ []) []) ≡ cond b (f x ∷ []) []
    at true = refl
    at false = refl
chosen-push {X} {Y} f p (first ∷ xs) x = at (p first) (chosen-push f p xs x)
  where
    at : (b : Bool) → map f (filter p (xs ++ x ∷ [])) ≡ map f (filter p xs) ++ cond (p x) (f x ∷ []) []
        → map f (cond b (first ∷ filter p (xs ++ x ∷ [])) (filter p (xs ++ x ∷ []))) ≡ map f (cond b (first ∷ filter p xs) (filter p xs)) ++ cond (p x) (f x ∷ []) []
    at true e = ap (λ (l : List Y). f first ∷ l) e
    at false e = e

pub chosen-more : {X Y : Type 0} (f : X → Y) (p : X → Bool) (xs : List X) (i : ℕ) (x : X) → i < length xs → x ≡ get_or xs i x → (first before now : List Y)
    → now ≡ before ++ cond (p x) (f x ∷ []) [] → before ≡ first ++ map f (filter p (take i xs)) → now ≡ first ++ map f (filter p (take (i + 1) xs))
chosen-more {X} {Y} f p xs i x less is first before now step stands =
    let more : take (i + 1) xs ≡ take i xs ++ x ∷ [] = take_more xs i x less ∙ ap (λ (y : X). take i xs ++ y ∷ []) (sym is) in
    step ∙ ap (λ (l : List Y). l ++ cond (p x) (f x ∷ []) []) stands ∙ append_assoc first (map f (filter p (take i xs))) (cond (p x) (f x ∷ []) [])
    ∙ ap (λ (l : List Y). first ++ l) (sym (chosen-push f p (take i xs) x) ∙ ap (λ (l : List X). map f (filter p l)) (sym more))

pub map-map : {X Y Z : Type 0} (f : Y → Z) (g : X → Y) (xs : List X) → map f (map g xs) ≡ map (λ x. f (g x)) xs
map-map f g [] = refl
map-map {X} {Y} {Z} f g (x ∷ xs) = ap (λ (l : List Z). f (g x) ∷ l) (map-map f g xs)

pub filter-alike : {X : Type 0} (p q : X → Bool) → ((x : X) → p x ≡ q x) → (xs : List X) → filter p xs ≡ filter q xs
filter-alike p q h [] = refl
filter-alike {X} p q h (x ∷ xs) = ap₂ (λ (b : Bool) (l : List X). cond b (x ∷ l) l) (h x) (filter-alike p q h xs)

pub filter-none : {X : Type 0} (p : X → Bool) → ((x : X) → p x ≡ false) → (xs : List X) → filter p xs ≡ []
filter-none p h [] = refl
filter-none {X} p h (x ∷ xs) = ap₂ (λ (b : Bool) (l : List X). cond b (x ∷ l) l) (h x) (filter-none p h xs)
