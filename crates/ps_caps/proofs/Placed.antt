-- A field at the place where a search finds it, and lists that are copies.
use Rattle.std.proofs.Common.{◌≡◌, ℕ, ◌+◌, ◌<◌, ◌≤◌, suc, Bool, true, false, cond, List, [], ◌∷◌, Option, Some, None, refl, ap, sym, subst, ◌∙◌, arith, length, get_or, true≢false}
use Rattle.std.specs.Prelude.{codes, find, position, nat_lt, remove}
use Rattle.std.specs.List.{AllZip, position_or_len, position_from, slice_get}
use Rattle.std.specs.Str.{bytes_eq}
use Rattle.std.proofs.lemmas.Iterator.Adapters.{position_from-zero}
use Rattle.std.proofs.lemmas.List.Folds.{find_at}
use Rattle.ps_base.proofs.Rows.{remove_at-position}
use Rattle.ps_base.specs.Rows.{remove_at, without_first}
use Rattle.ps_types.specs.declared.form.Field.{Field}
use Rattle.ps_types.specs.CapString.{TypedForm, typed_by, typed_field}
use Rattle.ps_types.specs.Forms.{form_type_var, is_field}
use Rattle.ps_types.specs.contracts.form.FieldClone.TheImpl as clone
use Prim.Native.Nat.{zero}
use borrow.Author.Tests.{ltb-true}

-- a list of copies is the list, where a copy is the same
pub all_same : {X : Type 0} (R : X → X → Type 0) → ((x y : X) → R x y → y ≡ x) → (xs ys : List X) → AllZip R xs ys → ys ≡ xs
all_same R same [] [] h = refl
all_same R same [] (y ∷ ys) h = absurd h
all_same R same (x ∷ xs) [] h = absurd h
all_same R same (x ∷ xs) (y ∷ ys) h = let e : y ≡ x = same x y h.0 in let more : ys ≡ xs = all_same R same xs ys h.1 in cc

module _ {X : Type 0} (p : X → Bool) where
  none_from : (at : ℕ) (xs : List X) → position_from p at xs ≡ None → find p xs ≡ None
  none_from at [] = λ h. refl
  none_from at (x ∷ xs) =
      elim (p x) as (λ b. cond b (Some at) (position_from p (at + 1) xs) ≡ None → cond b (Some x) (find p xs) ≡ None) [
        | true ↦ λ (h : Some at ≡ None). absurd (cc)
        | false ↦ λ (h : position_from p (at + 1) xs ≡ None). none_from (at + 1) xs h
      ]

  pub find_none : (xs : List X) → position p xs ≡ None → find p xs ≡ None
  find_none xs h = none_from 0 xs (sym (position_from-zero p xs) ∙ h)

  at_by : (b : Bool) (n i : ℕ) → cond b (Some n) None ≡ Some i → (b ≡ true) × (n ≡ i)
  at_by true n i h = (refl, cc)
  at_by false n i h = absurd (cc)

  pub position_below : (xs : List X) (i : ℕ) → position p xs ≡ Some i → i < length xs
  position_below xs i h =
      let both = at_by (nat_lt (position_or_len p xs) (length xs)) (position_or_len p xs) i h in
      subst (λ n. n < length xs) both.1 (ltb-true (position_or_len p xs) (length xs) both.0)

  got : (xs : List X) (i : ℕ) (x : X) → i < length xs → x ≡ get_or xs i x → slice_get xs i ≡ Some x
  got [] i x l e = absurd (omega arith)
  got (y ∷ ys) zero x l e = ap Some (sym e)
  got (y ∷ ys) (suc i) x l e = got ys i x (omega arith) e

  pub find_is : (xs : List X) (i : ℕ) (x : X) → position p xs ≡ Some i → x ≡ get_or xs i x → find p xs ≡ Some x
  find_is xs i x h e =
      let both = at_by (nat_lt (position_or_len p xs) (length xs)) (position_or_len p xs) i h in
      find_at p xs ∙ ap (slice_get xs) both.1 ∙ got xs i x (position_below xs i h) e

hidden : (field other : Field) (fields others : List Field) → find (is_field form_type_var) fields ≡ Some field → find (is_field form_type_var) fields ≡ Some other
    → bytes_eq field.kind (codes "hidden") ≡ true
    → typed_field (find (is_field form_type_var) fields) fields ≡ typed_by other.values (without_first (is_field form_type_var) fields)
hidden field other fields others found again h =
    let same : field ≡ other = cc in
    ap (λ o. typed_field o fields) found
    ∙ ap (λ b. cond b (typed_by field.values (without_first (is_field form_type_var) fields)) None) h
    ∙ ap (λ (f : Field). typed_by f.values (without_first (is_field form_type_var) fields)) same

-- by the field at its place, and the others
pub typed_at : (fields : List Field) (i : ℕ) (field other : Field) (others : List Field) → position (is_field form_type_var) fields ≡ Some i → field ≡ get_or fields i field
    → other ≡ get_or fields i other
    → others ≡ remove fields i → bytes_eq field.kind (codes "hidden") ≡ true → typed_by other.values others ≡ typed_field (find (is_field form_type_var) fields) fields
typed_at fields i field other others h e d r t =
    let gone : others ≡ without_first (is_field form_type_var) fields = r ∙ ap (λ o. remove_at o fields) (sym h) ∙ remove_at-position (is_field form_type_var) fields in
    ap (typed_by other.values) gone
    ∙ sym (hidden field other fields others (find_is (is_field form_type_var) fields i field h e) (find_is (is_field form_type_var) fields i other h d) t)

pub not_typed : (fields : List Field) (i : ℕ) (field : Field) → position (is_field form_type_var) fields ≡ Some i → field ≡ get_or fields i field → bytes_eq field.kind (codes "hidden") ≡ false
    → None ≡ typed_field (find (is_field form_type_var) fields) fields
not_typed fields i field h e t =
    sym (ap (λ o. typed_field o fields) (find_is (is_field form_type_var) fields i field h e)
    ∙ ap (λ b. cond b (typed_by field.values (without_first (is_field form_type_var) fields)) None) t)

pub none_typed : (fields : List Field) → position (is_field form_type_var) fields ≡ None → None ≡ typed_field (find (is_field form_type_var) fields) fields
none_typed fields h = sym (ap (λ o. typed_field o fields) (find_none (is_field form_type_var) fields h))

pub field_same : (x y : Field) → (clone.is_clone-value).it x y → y ≡ x
field_same x y k = let values = all_same _ (λ (a b : List ℕ) (e : b ≡ a). e) x.values y.values k.1.1 in λ i. record { var = k.0 i; kind = k.1.0 i; values = values i }
