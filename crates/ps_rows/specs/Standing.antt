-- Rows in places, of which some are empty.
use Rattle.std.specs.Prelude.{◌≡◌, ℕ, Bool, true, false, ◌+◌, ◌-◌, length, List, [], ◌∷◌, Option, Some, None, map, option_map, filter, take, drop, cond, is_some}
use Rattle.std.specs.List.{AllZip}
use Rattle.ps_chains.specs.Marks.{mark_at}

-- how many places a walk back has before it at most
abbrev pub left_back : Option ℕ → ℕ
left_back None = 0
left_back (Some place) = place + 1

module _ {R : Type 0} where
  -- the rows that stand, in the order of their places
  abbrev pub standing : List (Option R) → List R
  standing [] = []
  standing (None ∷ slots) = standing slots
  standing (Some row ∷ slots) = row ∷ standing slots

  -- the digest of the row at each place
  abbrev pub marked_by : (R → ℕ) → List (Option R) → List (Option ℕ)
  marked_by by slots = map (option_map by) slots

  -- the places before a place, or all where there is none
  abbrev pub upto : Option ℕ → List (Option R) → List (Option R)
  upto None slots = slots
  upto (Some place) slots = take place slots

  -- the rows that pass before a place, or all that pass
  abbrev pub seen : (R → Bool) → Option ℕ → List (Option R) → List R
  seen test at slots = filter test (standing (upto at slots))

  -- the rows that pass have the digest
  pub record Asks (test : R → Bool) (by : R → ℕ) (digest : ℕ) : Type 0 where
    pub alike : (row : R) → test row ≡ true → by row ≡ digest

  -- the rows that pass have the digest, whatever the seed
  abbrev pub AsksBy : (R → Bool) → (ℕ → R → ℕ) → (ℕ → ℕ) → Type 0
  AsksBy test by digest = (seed : ℕ) → Asks test (by seed) (digest seed)

  -- a row is there, and passes the test
  abbrev pub passes_at : (R → Bool) → Option R → Bool
  passes_at test None = false
  passes_at test (Some row) = test row

  -- where a walk stands: those before do not pass, or have gone, and a row of the digest is there
  pub record IsWalking (test : R → Bool) (by : R → ℕ) (digest : ℕ) (at : Option ℕ) (slots : List (Option R)) : Type 0 where
    pub before : seen test at slots ≡ []
    pub here : (place : ℕ) → at ≡ Some place → mark_at (marked_by by slots) place ≡ Some digest

  -- how many places a walk has before it at most
  abbrev pub left : Option ℕ → List (Option R) → ℕ
  left None slots = 0
  left (Some place) slots = (length slots - place) + 1

  -- the row, if it passes
  abbrev pub passing : (R → Bool) → Option R → List R
  passing test None = []
  passing test (Some row) = cond (test row) (row ∷ []) []

  -- where a walk stands that copies the rows that pass
  pub record IsGathering (alike : R → R → Type 0) (test : R → Bool) (by : R → ℕ) (digest : ℕ) (at : Option ℕ) (slots : List (Option R)) (rows : List R) : Type 0 where
    pub gathered : AllZip alike (seen test at slots) rows
    pub here : (place : ℕ) → at ≡ Some place → mark_at (marked_by by slots) place ≡ Some digest

  -- the digests of the rows that stand, as marks
  abbrev pub marks_of : (R → ℕ) → List (Option R) → List (Option ℕ)
  marks_of by slots = map (λ row. Some (by row)) (standing slots)

  -- the places without the empty ones
  abbrev pub packed : List (Option R) → List (Option R)
  packed slots = filter is_some slots

  -- the places after a place, or all where there is none
  abbrev pub after : Option ℕ → List (Option R) → List (Option R)
  after None slots = slots
  after (Some place) slots = drop (place + 1) slots

  -- the rows that pass after a place, or all that pass
  abbrev pub seen_after : (R → Bool) → Option ℕ → List (Option R) → List R
  seen_after test at slots = filter test (standing (after at slots))

  -- where a walk back stands: those after do not pass, and a row of the digest is there
  pub record IsWalkingBack (test : R → Bool) (by : R → ℕ) (digest : ℕ) (at : Option ℕ) (slots : List (Option R)) : Type 0 where
    pub after : seen_after test at slots ≡ []
    pub here : (place : ℕ) → at ≡ Some place → mark_at (marked_by by slots) place ≡ Some digest

  -- where a walk stands that counts the rows that pass
  pub record IsTallying (test : R → Bool) (by : R → ℕ) (digest : ℕ) (at : Option ℕ) (slots : List (Option R)) (held : ℕ) : Type 0 where
    pub counted : held ≡ length (seen test at slots)
    pub here : (place : ℕ) → at ≡ Some place → mark_at (marked_by by slots) place ≡ Some digest
