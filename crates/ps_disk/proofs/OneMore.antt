-- One call more.
use Rattle.std.proofs.Common.{◌≡◌, ◌⊎◌, inl, inr, ℕ, ◌+◌, ◌<◌, ◌≤◌, List, [], ◌∷◌, ◌++◌, length, get_or, take, refl, sym, ◌∙◌, ap, subst, arith, length-append, cond, append-nil}
use Rattle.std.specs.Prelude.{Bool, true, false, nat_le, filter, replicate}
use Rattle.std.proofs.lemmas.List.{take_all, take-append-le, take_more, length-replicate}
use Rattle.std.proofs.lemmas.List.Elements.{filter-append}
use Rattle.std.proofs.lemmas.Bool.{cases_lt}
use Rattle.ps_disk.specs.Disk.{MayLeave, Elapses}
use Rattle.ps_disk.specs.Calls.{Recorded, State, start_of, step, after_calls, state_of, state_after, sync_count, syncs_in, LeftSince, over, filled, outcome}
use Rattle.ps_disk.specs.SeenLeft.{over_left, synced_left, all_left}
use Rattle.ps_disk.specs.declared.replay.Torn.{Torn}
use Rattle.ps_disk.specs.declared.replay.Torn.TheVariants.{Lost, Whole, Filled}
use Rattle.ps_disk.specs.declared.replay.Kept.{Kept}

pub after_push : (s : State) (kept : List Kept) (one : Kept) → after_calls s (kept ++ one ∷ []) ≡ step (after_calls s kept) one.call
after_push s [] one = refl
after_push s (k ∷ kept) one = after_push (step s k.call) kept one

-- the number of syncs with one call more
pub syncs_push : (kept : List Kept) (one : Kept) → syncs_in (kept ++ one ∷ []) ≡ syncs_in kept + sync_count one.call
syncs_push [] one = omega arith
syncs_push (k ∷ kept) one = omega (arith, syncs_push kept one)

abbrev Leaves : State → List ℕ → Type 0
Leaves s c = MayLeave s.synced s.written c

module _ (old new : Recorded) (start_is : new.start ≡ old.start) where
  -- where one call more is kept
  module _ (one : Kept) (kept_is : new.kept ≡ old.kept ++ one ∷ []) where
    pub state_is : state_of new ≡ step (state_of old) one.call
    state_is =
        ap (λ (l : List ℕ). after_calls (start_of l) new.kept) start_is
        ∙ ap (λ (l : List Kept). after_calls (start_of old.start) l) kept_is
        ∙ after_push (start_of old.start) old.kept one

    front : (k : ℕ) → k ≤ length old.kept → after_calls (start_of new.start) (take k new.kept) ≡ after_calls (start_of old.start) (take k old.kept)
    front k le =
        ap (λ (l : List ℕ). after_calls (start_of l) (take k new.kept)) start_is
        ∙ ap (λ (l : List Kept). after_calls (start_of old.start) (take k l)) kept_is
        ∙ ap (λ (l : List Kept). after_calls (start_of old.start) l) (take-append-le k old.kept (one ∷ []) le)

    size : length new.kept ≡ length old.kept + 1
    size = ap length kept_is ∙ length-append old.kept (one ∷ [])

    pub time_is : Elapses (length old.kept) (length new.kept) (LeftSince old) (LeftSince new) (λ c. Leaves (state_of new) c)
    time_is = record {
      later = omega (arith, size);
      nothing_else = λ t c le left. split t c left (cases_lt (length old.kept) left.0);
      keeps = λ t c le left. (left.0, left.1, omega (arith, left.2, size), subst (λ (s : State). Leaves s c) (sym (front left.0 left.2)) left.3);
    }
      where
        split : (t : ℕ) (c : List ℕ) (left : LeftSince new t c) → (length old.kept < left.0) ⊎ (left.0 ≤ length old.kept) → LeftSince old t c ⊎ Leaves (state_of new) c
        split t c left (inl last) = inr (subst (λ (l : List Kept). Leaves (after_calls (start_of new.start) l) c) (take_all left.0 new.kept (omega (arith, last, size))) left.3)
        split t c left (inr before) = inl (left.0, left.1, before, subst (λ (s : State). Leaves s c) (front left.0 before) left.3)

  -- where none is kept
  module _ (kept_is : new.kept ≡ old.kept) where
    pub state_stays : state_of new ≡ state_of old
    state_stays = ap (λ (l : List ℕ). after_calls (start_of l) new.kept) start_is ∙ ap (λ (l : List Kept). after_calls (start_of old.start) l) kept_is

    same : (k : ℕ) → after_calls (start_of new.start) (take k new.kept) ≡ after_calls (start_of old.start) (take k old.kept)
    same k = ap (λ (l : List ℕ). after_calls (start_of l) (take k new.kept)) start_is ∙ ap (λ (l : List Kept). after_calls (start_of old.start) (take k l)) kept_is

    pub time_stays : Elapses (length old.kept) (length new.kept) (LeftSince old) (LeftSince new) (λ c. Leaves (state_of new) c)
    time_stays = record {
      later = omega (arith, ap length kept_is);
      nothing_else = λ t c le left. inl (left.0, left.1, omega (arith, left.2, ap length kept_is), subst (λ (s : State). Leaves s c) (same left.0) left.3);
      keeps = λ t c le left. (left.0, left.1, omega (arith, left.2, ap length kept_is), subst (λ (s : State). Leaves s c) (sym (same left.0)) left.3);
    }

-- one call of the list further, of those that pass a test
pub one_further : (s : State) (p : Kept → Bool) (kept : List Kept) (i : ℕ) (one : Kept) → i < length kept → one ≡ get_or kept i one
    → after_calls s (filter p (take (i + 1) kept)) ≡ cond (p one) (step (after_calls s (filter p (take i kept))) one.call) (after_calls s (filter p (take i kept)))
one_further s p kept i one within is =
    ap (λ (l : List Kept). after_calls s (filter p l)) (take_more kept i one within ∙ ap (λ (x : Kept). take i kept ++ x ∷ []) (sym is))
    ∙ ap (λ (l : List Kept). after_calls s l) (filter-append p (take i kept) (one ∷ []))
    ∙ last (p one) refl
  where
    before : State
    before = after_calls s (filter p (take i kept))

    last : (b : Bool) → p one ≡ b → after_calls s (filter p (take i kept) ++ filter p (one ∷ [])) ≡ cond b (step before one.call) before
    last true e = ap (λ (b : Bool). after_calls s (filter p (take i kept) ++ cond b (one ∷ []) [])) e ∙ after_push s (filter p (take i kept)) one
    last false e = ap (λ (b : Bool). after_calls s (filter p (take i kept) ++ cond b (one ∷ []) [])) e ∙ ap (λ (l : List Kept). after_calls s l) (append-nil (filter p (take i kept)))

-- two steps of a call: it is counted, and then kept
module _ (old mid new : Recorded) (one : Kept) (start_mid : mid.start ≡ old.start) (kept_mid : mid.kept ≡ old.kept) (is : new ≡ record mid { kept = mid.kept ++ one ∷ [] }) where
  pub start_then : new.start ≡ old.start
  start_then = ap (λ (d : Recorded). d.start) is ∙ start_mid

  pub kept_then : new.kept ≡ old.kept ++ one ∷ []
  kept_then = ap (λ (d : Recorded). d.kept) is ∙ ap (λ (l : List Kept). l ++ one ∷ []) kept_mid

  pub state_then : state_of new ≡ step (state_of old) one.call
  state_then = state_is old new start_then one kept_then

  pub time_then : Elapses (length old.kept) (length new.kept) (LeftSince old) (LeftSince new) (λ c. MayLeave (state_of new).synced (state_of new).written c)
  time_then = time_is old new start_then one kept_then

  pub syncs_then : syncs_in new.kept ≡ syncs_in old.kept + sync_count one.call
  syncs_then = ap syncs_in kept_then ∙ syncs_push old.kept one

-- each outcome is one of the contents that a crash may leave
filled_left : (byte : ℕ) (ranges : List (ℕ × ℕ)) (s : List ℕ) → MayLeave s ranges (filled byte ranges s)
filled_left byte [] s = synced_left s []
filled_left byte (range ∷ ranges) s =
    subst (λ (n : ℕ). MayLeave s ((range.0, n) ∷ ranges) (over (filled byte ranges s) range.0 (replicate range.1 byte))) (length-replicate range.1 byte)
    (over_left s (filled byte ranges s) ranges range.0 (replicate range.1 byte) (filled_left byte ranges s))

outcome_of : (torn : Torn) (s : State) → MayLeave s.synced s.written s.seen → MayLeave s.synced s.written (outcome torn s)
outcome_of Lost s seen = synced_left s.synced s.written
outcome_of Whole s seen = seen
outcome_of (Filled byte) s seen = filled_left byte s.written s.synced

pub outcome_left : (torn : Torn) (n : ℕ) (d : Recorded) → MayLeave (state_after n d).synced (state_after n d).written (outcome torn (state_after n d))
outcome_left torn n d = outcome_of torn (state_after n d) (all_left (start_of d.start) (filter (λ one. nat_le one.number n) d.kept) (synced_left d.start []))
