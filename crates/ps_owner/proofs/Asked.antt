-- The rows of the addresses that are asked for.
use Rattle.std.proofs.Common.{◌≡◌, Bool, true, false, cond, ◌&&◌, List, [], ◌∷◌, Option, Some, None, refl}
use Rattle.std.specs.Prelude.{find, is_some, map}
use Rattle.ps_types.specs.declared.request.AskRow.{AskRow}

module _ {R : Type 0} (of : AskRow → R → Bool) where
  -- each row that is asked for is one of these
  abbrev pub Covers : (R → Bool) → List AskRow → Type 0
  Covers own [] = Unit {0}
  Covers own (row ∷ rows) = ((x : R) → of row x ≡ true → own x ≡ true) × Covers own rows

  covers-more : (own more : R → Bool) → ((x : R) → own x ≡ true → more x ≡ true) → (rows : List AskRow) → Covers own rows → Covers more rows
  covers-more own more h [] c = tt
  covers-more own more h (row ∷ rows) c = (λ x k. h x (c.0 x k), covers-more own more h rows c.1)

  module _ (at : R → Bool) (same : R → R → Bool) (mark : AskRow → R) (marks : (row : AskRow) (x : R) → of row x ≡ true → (at x ≡ true) × (same x (mark row) ≡ true)) where
    abbrev among : List R → R → Bool
    among others x = at x && is_some (find (same x) others)

    some-more : (a b : Bool) (y : R) (o : Option R) → (a && is_some o) ≡ true → (a && is_some (cond b (Some y) o)) ≡ true
    some-more true true y o h = refl
    some-more true false y o h = h
    some-more false b y o h = absurd (cc)

    head : (a b : Bool) (y : R) (o : Option R) → a ≡ true → b ≡ true → (a && is_some (cond b (Some y) o)) ≡ true
    head true true y o h k = refl
    head true false y o h k = absurd (cc)
    head false b y o h k = absurd (cc)

    pub covers-among : (rows : List AskRow) → Covers (among (map mark rows)) rows
    covers-among [] = tt
    covers-among (row ∷ rows) = (
      λ x k. head (at x) (same x (mark row)) (mark row) (find (same x) (map mark rows)) (marks row x k).0 (marks row x k).1,
      covers-more (among (map mark rows)) (among (mark row ∷ map mark rows)) (λ x h. some-more (at x) (same x (mark row)) (mark row) (find (same x) (map mark rows)) h) rows (covers-among rows),
    )
