-- A change of the object under one name.
use Rattle.std.proofs.Common.{◌≡◌, ◌≢◌, inl, inr, ℕ, zero, suc, ◌<◌, ◌≤◌, ◌++◌, Bool, true, false, cond, List, [], ◌∷◌, length, get_or, Some, None, Option, refl, sym, ◌∙◌, ap, subst, arith, rules}
use Rattle.std.proofs.Math.ListN.{set}
use Rattle.std.proofs.lemmas.Bool.Decides.{nat_tests}
use Rattle.std.proofs.lemmas.List.Quantifiers.{position-Some}
use Rattle.std.proofs.lemmas.List.Folds.{find-set, find_at}
use Rattle.std.proofs.lemmas.Slice.Eq.{bytes_eq-Decides}
use Rattle.std.proofs.lemmas.Option.{slice_get-get_or, slice_get_past, slice_get_cases}
use Rattle.std.specs.Option.{option_map}
use Rattle.std.specs.List.{find, position, position_or_len, slice_get}
use Rattle.std.specs.Prelude.{IfSome, IsSome}
use Rattle.std.specs.Str.{bytes_eq}
use Rattle.ps_io.specs.declared.shelf.Slot.{Slot}
use Rattle.ps_io.specs.Shelf.{at}

is_place : {X : Type 0} (p : X → Bool) (xs : List X) (i : ℕ) → position p xs ≡ Some i → (i ≡ position_or_len p xs) × (i < length xs)
is_place p xs i is = grind (arith, nat_tests)

-- a write of an element that fails the test, over one that does
find_set_other : {X : Type 0} (q : X → Bool) (xs : List X) (i : ℕ) (y d : X) → q (get_or xs i d) ≡ false → q y ≡ false → i < length xs → find q (set xs i y) ≡ find q xs
find_set_other q [] i y d old new within = refl
find_set_other q (x ∷ xs) zero y d old new within = rw (new, old) refl
find_set_other q (x ∷ xs) (suc i) y d old new within = ap (λ (o : Option _). cond (q x) (Some x) o) (find_set_other q xs i y d old new (omega arith))

other_name : (a name n : List ℕ) → bytes_eq a name ≡ true → n ≢ name → bytes_eq a n ≡ false
other_name a name n same other = tested (bytes_eq a n) refl
  where
    tested : (b : Bool) → bytes_eq a n ≡ b → b ≡ false
    tested true is = absurd (other (sym ((bytes_eq-Decides a n).0 is) ∙ (bytes_eq-Decides a name).0 same))
    tested false is = refl

module _ {T : Type 0} (slots : List (Slot T)) (name : List ℕ) (place : ℕ) (d : Slot T) (found : Some place ≡ position (λ slot. bytes_eq slot.name name) slots) where
  abbrev names : Slot T → Bool
  names slot = bytes_eq slot.name name

  is : position names slots ≡ Some place
  is = sym found

  -- what stands there
  pub at_place : at slots name ≡ Some (get_or slots place d).held
  at_place =
      let first : find names slots ≡ Some (get_or slots place d) =
      find_at names slots ∙ ap (λ (i : ℕ). slice_get slots i) (sym (is_place names slots place is).0) ∙ slice_get-get_or slots place d (is_place names slots place is).1 in
      ap (λ (o : Option (Slot T)). option_map (λ s. s.held) o) first

  -- the object under the name is another, and the place keeps its name
  pub set_here : (slot : Slot T) → slot.name ≡ (get_or slots place d).name → at (set slots place slot) name ≡ Some slot.held
  set_here slot named =
      let passes : names slot ≡ true = ap (λ (n : List ℕ). bytes_eq n name) named ∙ (position-Some names slots place d is).1 in
      ap (λ (o : Option (Slot T)). option_map (λ s. s.held) o) (find-set names slots place slot (is_place names slots place is).0 (is_place names slots place is).1 passes)

  pub set_elsewhere : (slot : Slot T) → slot.name ≡ (get_or slots place d).name → (n : List ℕ) → n ≢ name → at (set slots place slot) n ≡ at slots n
  set_elsewhere slot named n other =
      let old : bytes_eq (get_or slots place d).name n ≡ false = other_name _ name n (position-Some names slots place d is).1 other in
      let new : bytes_eq slot.name n ≡ false = ap (λ (m : List ℕ). bytes_eq m n) named ∙ old in
      ap (λ (o : Option (Slot T)). option_map (λ s. s.held) o) (find_set_other (λ s. bytes_eq s.name n) slots place slot d old new (is_place names slots place is).1)

pub at_some : {X : Type 0} (o : Option X) (P : X → Type 0) → ((x : X) → o ≡ Some x → P x) → IfSome o P
at_some None P h = tt
at_some (Some x) P h = h x refl

no_place : {X : Type 0} (p : X → Bool) (xs : List X) → None ≡ position p xs → length xs ≤ position_or_len p xs
no_place p xs is = grind (arith, nat_tests)

nowhere : {X : Type 0} (p : X → Bool) (xs : List X) → length xs ≤ position_or_len p xs → find p xs ≡ None
nowhere p xs past = find_at p xs ∙ slice_get_past xs (position_or_len p xs) past

-- no object stands under a name that no place has
pub at_none : {T : Type 0} (slots : List (Slot T)) (name : List ℕ) → None ≡ position (λ slot. bytes_eq slot.name name) slots → at slots name ≡ None
at_none slots name is = ap (λ (o : Option (Slot _)). option_map (λ s. s.held) o) (nowhere _ slots (no_place _ slots is))

-- a name that stands somewhere has a place
pub has_place : {T : Type 0} (slots : List (Slot T)) (name : List ℕ) (held : Option T) (place : Option ℕ) → at slots name ≡ Some held → place ≡ position (λ slot. bytes_eq slot.name name) slots
    → IsSome place
has_place slots name held None stands is = absurd (cc (stands, at_none slots name is))
has_place slots name held (Some place) stands is = search rules

find_push : {X : Type 0} (p : X → Bool) (xs : List X) (y : X) → find p xs ≡ None → find p (xs ++ y ∷ []) ≡ cond (p y) (Some y) None
find_push p [] y none = refl
find_push p (x ∷ xs) y none = tested (p x) (find p xs) (find p (xs ++ y ∷ [])) none (find_push p xs y)
  where
    tested : (b : Bool) (old new : Option _) → cond b (Some x) old ≡ None → (old ≡ None → new ≡ cond (p y) (Some y) None) → cond b (Some x) new ≡ cond (p y) (Some y) None
    tested true old new none more = absurd (cc none)
    tested false old new none more = more none

find_push_other : {X : Type 0} (p : X → Bool) (xs : List X) (y : X) → p y ≡ false → find p (xs ++ y ∷ []) ≡ find p xs
find_push_other p [] y fails = rw fails refl
find_push_other p (x ∷ xs) y fails = ap (λ (o : Option _). cond (p x) (Some x) o) (find_push_other p xs y fails)

same_name : (name : List ℕ) → bytes_eq name name ≡ true
same_name name = (bytes_eq-Decides name name).1 refl

module _ {T : Type 0} (slots new : List (Slot T)) (slot : Slot T) (name : List ℕ) (named : slot.name ≡ name) (pushed : new ≡ slots ++ slot ∷ []) where
  pub push_here : None ≡ position (λ s. bytes_eq s.name name) slots → at new name ≡ Some slot.held
  push_here is =
      ap (λ (l : List (Slot T)). at l name) pushed
      ∙ ap (λ (o : Option (Slot T)). option_map (λ s. s.held) o)
      (find_push _ slots slot (nowhere _ slots (no_place _ slots is)) ∙ ap (λ b. cond b (Some slot) None) (ap (λ (n : List ℕ). bytes_eq n name) named ∙ same_name name))

  pub push_elsewhere : (n : List ℕ) → n ≢ name → at new n ≡ at slots n
  push_elsewhere n other =
      ap (λ (l : List (Slot T)). at l n) pushed
      ∙ ap (λ (o : Option (Slot T)). option_map (λ s. s.held) o)
      (find_push_other _ slots slot (other_name slot.name name n (ap (λ (m : List ℕ). bytes_eq m name) named ∙ same_name name) other))

pub at_place_is_some : {T : Type 0} (slots : List (Slot T)) (name : List ℕ) (place : ℕ) → Some place ≡ position (λ slot. bytes_eq slot.name name) slots → IsSome (at slots name)
at_place_is_some {T} slots name place found =
    let at_first = is_place _ slots place (sym found) in
    let first : find (λ slot. bytes_eq slot.name name) slots ≡ slice_get slots place = find_at _ slots ∙ ap (λ (i : ℕ). slice_get slots i) (sym at_first.0) in
    elim (slice_get_cases slots place).1 [
      | inl w ↦ subst (λ (o : Option (Option T)). IsSome o) (sym (ap (λ (o : Option (Slot T)). option_map (λ s. s.held) o) (first ∙ w.2))) (search rules)
      | inr w ↦ absurd (omega (arith, w.0, at_first.1))
    ]
