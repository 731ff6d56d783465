-- Lists that go on, and their elements.
use Rattle.std.proofs.Common.{◌≡◌, ℕ, zero, suc, List, [], ◌∷◌, ◌++◌, length, Some, None, refl, sym, ap, ◌∙◌, append_assoc, append-nil}
use Rattle.std.specs.Prelude.{slice_get}
use Rattle.ps_types.specs.declared.entry.Entry.{Entry}
use Rattle.ps_follow_laws.specs.Follow.{IsFront}

module _ {X : Type 0} where
  -- what a front has, the list has
  pub get-front : (xs ys : List X) (k : ℕ) (x : X) → slice_get xs k ≡ Some x → slice_get (xs ++ ys) k ≡ Some x
  get-front [] ys k x e = absurd (let no : None ≡ Some x = e in cc no)
  get-front (y ∷ xs) ys zero x e = e
  get-front (y ∷ xs) ys (suc k) x e = get-front xs ys k x e

  -- the element behind a front is the first one there
  pub get-behind : (xs ys : List X) (x : X) → slice_get (xs ++ ys) (length xs) ≡ Some x → (rest : List X) × (ys ≡ x ∷ rest)
  get-behind [] [] x e = absurd (let no : None ≡ Some x = e in cc no)
  get-behind [] (y ∷ ys) x e = let same : y ≡ x = cc e in (ys, ap (λ z. z ∷ ys) same)
  get-behind (z ∷ xs) ys x e = get-behind xs ys x e

pub front-itself : (E : List Entry) → IsFront E E
front-itself E = ([], append-nil E)

pub front-more : (E F : List Entry) → IsFront E (E ++ F)
front-more E F = (F, refl)

pub front-trans : (E F G : List Entry) → IsFront E F → IsFront F G → IsFront E G
front-trans E F G f g = (f.0 ++ g.0, sym (append_assoc E f.0 g.0) ∙ ap (λ (t : List Entry). t ++ g.0) f.1 ∙ g.1)
