-- A walk over the places of a digest, which lists what is wanted of each row that passes a test.
use Rattle.std.proofs.Common.{◌≡◌, ◌+◌, ℕ, Bool, cond, List, [], ◌∷◌, ◌++◌, Option, Some, None, refl, ap, sym, ◌∙◌, map, filter}
use Rattle.std.proofs.lemmas.List.{map-append}
use Rattle.ps_chains.specs.Marks.{mark_at, FirstFrom}
use Rattle.ps_rows.specs.Standing.{standing, marked_by, seen, passing, Asks}
use Rattle.ps_rows.proofs.Turns.{Next, start, meets, row_at}
use Rattle.ps_rows.proofs.Walk.{marked_next}

module _ {R X : Type 0} (test : R → Bool) (by : R → ℕ) (digest : ℕ) (of : R → X) where
  -- where a walk stands: what is wanted of the rows before
  pub record IsListing (at : Option ℕ) (slots : List (Option R)) (found : List X) : Type 0 where
    pub listed : found ≡ map of (seen test at slots)
    pub here : (place : ℕ) → at ≡ Some place → mark_at (marked_by by slots) place ≡ Some digest

  module _ (asks : Asks test by digest) (slots : List (Option R)) where
    pub listing-start : (o : Option ℕ) → FirstFrom (mark_at (marked_by by slots)) digest 0 o → IsListing o slots []
    listing-start o f =
        let w = start test by digest asks slots o digest f refl in
        record { listed = ap (map of) (sym w.before); here = w.here }

    pub listing-on : (at o : Option ℕ) (place : ℕ) (found found' : List X) → at ≡ Some place → IsListing at slots found → Next by slots place o
        → found' ≡ found ++ map of (passing test (mark_at slots place)) → IsListing o slots found'
    listing-on at o place found found' e w n more =
        let h = w.here place e in
        let row = row_at by slots place digest h in
        let m = meets test by digest asks slots at o place row.0 e h n row.1 in
        let p : cond (test row.0) (row.0 ∷ []) [] ≡ passing test (mark_at slots place) = ap (passing test) (sym row.1) in
        let before = seen test at slots in
        let all : seen test o slots ≡ before ++ passing test (mark_at slots place) = m ∙ ap (λ x. before ++ x) p in
        record {
          listed = more ∙ (ap (λ x. x ++ map of (passing test (mark_at slots place))) w.listed ∙ (sym (map-append of before (passing test (mark_at slots place))) ∙ ap (map of) (sym all)));
          here = λ q s. marked_next test by digest asks slots (place + 1) o q (n digest h) s;
        }

    pub listing-end : (at : Option ℕ) (found : List X) → at ≡ None → IsListing at slots found → found ≡ map of (filter test (standing slots))
    listing-end at found e w = w.listed ∙ ap (λ x. map of (seen test x slots)) e
