-- One step more of a walk.
use Rattle.std.proofs.Common.{◌≡◌, ℕ, ◌+◌, ◌<◌, List, [], ◌∷◌, ◌++◌, length, take, get_or, Option, Some, None, refl, sym, ap, ap₂, ◌∙◌, append-nil}
use Rattle.std.specs.Prelude.{flat_map, option_map}
use Rattle.std.specs.List.{cons_option}
use Rattle.std.proofs.lemmas.List.{take_more, flat_map_more}
use Rattle.ps_types.specs.Tree.{Tree}
use Rattle.ps_types.specs.declared.jid.Jid.{Jid}
use Rattle.ps_fanout.specs.Told.{given_to}

module _ {X : Type 0} (xs : List X) (i : ℕ) (x : X) (less : i < length xs) (is : x ≡ get_or xs i x) where
  pub one-more : take (i + 1) xs ≡ take i xs ++ x ∷ []
  one-more = take_more xs i x less ∙ ap (λ (y : X). take i xs ++ y ∷ []) (sym is)

  pub spread-more : (f : X → List Jid) (first before after : List Jid) → before ≡ first ++ flat_map f (take i xs) → after ≡ before ++ f x → after ≡ first ++ flat_map f (take (i + 1) xs)
  spread-more f first before after stands step =
      step ∙ ap (λ (l : List Jid). l ++ f x) stands ∙ flat_map_more f first (take i xs) x ∙ sym (ap (λ (ys : List X). first ++ flat_map f ys) one-more)

given-append : (f : Jid → Option Tree) (xs ys : List Jid) → given_to f (xs ++ ys) ≡ given_to f xs ++ given_to f ys
given-append f [] ys = refl
given-append f (x ∷ xs) ys = at (f x) (given-append f xs ys)
  where
    at : (o : Option Tree) → given_to f (xs ++ ys) ≡ given_to f xs ++ given_to f ys
        → cons_option (option_map (λ (t : Tree). (x, t)) o) (given_to f (xs ++ ys)) ≡ cons_option (option_map (λ (t : Tree). (x, t)) o) (given_to f xs) ++ given_to f ys
    at None e = e
    at (Some t) e = ap (λ (l : List (Jid × Tree)). (x, t) ∷ l) e

-- one more that is given nothing, or something
pub given-none : (f : Jid → Option Tree) (xs : List Jid) (i : ℕ) (x : Jid) → i < length xs → x ≡ get_or xs i x → f x ≡ None → (told : List (Jid × Tree)) → told ≡ given_to f (take i xs)
    → told ≡ given_to f (take (i + 1) xs)
given-none f xs i x less is none told stands =
    stands ∙ sym (append-nil (given_to f (take i xs))) ∙ ap (λ (o : Option Tree). given_to f (take i xs) ++ cons_option (option_map (λ (t : Tree). (x, t)) o) []) (sym none)
    ∙ sym (given-append f (take i xs) (x ∷ [])) ∙ sym (ap (given_to f) (one-more xs i x less is))

pub given-some : (f : Jid → Option Tree) (xs : List Jid) (i : ℕ) (x : Jid) (t : Tree) → i < length xs → x ≡ get_or xs i x → f x ≡ Some t → (told : List (Jid × Tree)) → told ≡ given_to f (take i xs)
    → told ++ (x, t) ∷ [] ≡ given_to f (take (i + 1) xs)
given-some f xs i x t less is some told stands =
    ap (λ (l : List (Jid × Tree)). l ++ (x, t) ∷ []) stands ∙ ap (λ (o : Option Tree). given_to f (take i xs) ++ cons_option (option_map (λ (u : Tree). (x, u)) o) []) (sym some)
    ∙ sym (given-append f (take i xs) (x ∷ [])) ∙ sym (ap (given_to f) (one-more xs i x less is))

-- addresses of equal parts are one
pub jid-same : (a b : Jid) → (a.local ≡ b.local) × ((a.host ≡ b.host) × (a.resource ≡ b.resource)) → a ≡ b
jid-same a b same =
    ap (λ (l : List ℕ). record { local = l; host = a.host; resource = a.resource }) same.0
    ∙ ap₂ (λ (h r : List ℕ). record { local = b.local; host = h; resource = r }) same.1.0 same.1.1
