-- The laws of a disk in memory: what is seen is one of the contents that a crash may leave, and what has been left since now is what may be left now.
use Rattle.std.specs.Prelude.{ℕ, ◌≡◌, ◌⊎◌, ◌+◌, ◌-◌, ◌<◌, ◌≤◌, min, List, [], ◌∷◌, ◌++◌, length, take, drop}
use Rattle.std.proofs.Common.{inl, inr, get_or, refl, sym, ◌∙◌, ap, subst, arith, length-take, length-append}
use Rattle.std.proofs.lemmas.List.{get_or-take, get_or-drop, get_or_append_left, get_or-append_right, length-drop, take_all}
use Rattle.std.proofs.lemmas.Bool.{cases_lt}
use Rattle.ps_disk.specs.Disk.{MayLeave, IsWritten}
use Rattle.ps_disk.specs.Calls.{Recorded, State, start_of, step, after_calls, state_of, LeftSince, over}
use Rattle.ps_disk.specs.declared.replay.Call.{Call}
use Rattle.ps_disk.specs.declared.replay.Call.TheVariants.{Wrote, Failed, Synced}
use Rattle.ps_disk.specs.declared.replay.Kept.{Kept}

pub length-over : (s : List ℕ) (at : ℕ) (p : List ℕ) → length (over s at p) ≡ (min at (length s) + length p) + (length s - (at + length p))
length-over s at p = omega (arith, length-append (take at s ++ p) (drop (at + length p) s), length-append (take at s) p, length-take at s, length-drop (at + length p) s)

pub same_outside : (s : List ℕ) (at : ℕ) (p : List ℕ) (k : ℕ) → k < length s → (k < at) ⊎ (at + length p ≤ k) → get_or (over s at p) k 0 ≡ get_or s k 0
same_outside s at p k within (inl less) =
    get_or_append_left (take at s ++ p) (drop (at + length p) s) 0 k (omega (arith, length-append (take at s) p, length-take at s))
    ∙ get_or_append_left (take at s) p 0 k (omega (arith, length-take at s))
    ∙ get_or-take at s k 0 less
same_outside s at p k within (inr more) =
    get_or-append_right (take at s ++ p) (drop (at + length p) s) (at + length p) k 0 (omega (arith, length-append (take at s) p, length-take at s)) more
    ∙ get_or-drop (at + length p) s (k - (at + length p)) 0
    ∙ ap (λ (n : ℕ). get_or s n 0) (omega arith)

-- one range more, with any bytes in it
pub over_left : (b s : List ℕ) (w : List (ℕ × ℕ)) (at : ℕ) (p : List ℕ) → MayLeave b w s → MayLeave b ((at, length p) ∷ w) (over s at p)
over_left b s w at p leaves = record {
  no_shorter = omega (arith, length-over s at p, leaves.no_shorter);
  no_longer = omega (arith, length-over s at p, leaves.no_longer);
  elsewhere = λ k within out. split k within out (cases_lt k at) (cases_lt k (at + length p));
}
  where
    split : (k : ℕ) → k < length b → (IsWritten ((at, length p) ∷ w) k → ⊥) → (k < at) ⊎ (at ≤ k) → (k < at + length p) ⊎ (at + length p ≤ k) → get_or (over s at p) k 0 ≡ get_or b k 0
    split k within out (inl less) more = same_outside s at p k (omega (arith, leaves.no_shorter)) (inl less) ∙ leaves.elsewhere k within (λ x. out (inr x))
    split k within out (inr least) (inl less) = absurd (out (inl (least, less)))
    split k within out (inr least) (inr more) = same_outside s at p k (omega (arith, leaves.no_shorter)) (inr more) ∙ leaves.elsewhere k within (λ x. out (inr x))

-- what a crash may leave only grows
pub grows : (b s : List ℕ) (w : List (ℕ × ℕ)) (range : ℕ × ℕ) → MayLeave b w s → MayLeave b (range ∷ w) s
grows b s w range leaves = record { no_shorter = leaves.no_shorter; no_longer = omega (arith, leaves.no_longer); elsewhere = λ k within out. leaves.elsewhere k within (λ x. out (inr x)) }

-- what stood at the last sync may be left
pub synced_left : (b : List ℕ) (w : List (ℕ × ℕ)) → MayLeave b w b
synced_left b w = record { no_shorter = omega arith; no_longer = omega arith; elsewhere = λ k within out. refl }

pub step_left : (s : State) (call : Call) → MayLeave s.synced s.written s.seen → MayLeave (step s call).synced (step s call).written (step s call).seen
step_left s (Wrote at bytes) leaves = over_left s.synced s.seen s.written at bytes leaves
step_left s (Failed at count) leaves = grows s.synced s.seen s.written (at, count) leaves
step_left s Synced leaves = synced_left s.seen []

pub all_left : (s : State) (kept : List Kept) → MayLeave s.synced s.written s.seen → MayLeave (after_calls s kept).synced (after_calls s kept).written (after_calls s kept).seen
all_left s [] leaves = leaves
all_left s (one ∷ others) leaves = all_left (step s one.call) others (step_left s one.call leaves)

pub seen_left : (d : Recorded) → MayLeave (state_of d).synced (state_of d).written (state_of d).seen
seen_left d = all_left (start_of d.start) d.kept (synced_left d.start [])

all_kept : (s : State) (kept : List Kept) (k : ℕ) → length kept ≤ k → after_calls s (take k kept) ≡ after_calls s kept
all_kept s kept k le = ap (λ (l : List Kept). after_calls s l) (take_all k kept le)

pub left_now : (d : Recorded) (t : ℕ) (c : List ℕ) → t ≤ length d.kept → MayLeave (state_of d).synced (state_of d).written c → LeftSince d t c
left_now d t c le leaves =
    (length d.kept, le, omega arith, subst (λ (s : State). MayLeave s.synced s.written c) (sym (all_kept (start_of d.start) d.kept (length d.kept) (omega arith))) leaves)

pub only_left_now : (d : Recorded) (c : List ℕ) → LeftSince d (length d.kept) c → MayLeave (state_of d).synced (state_of d).written c
only_left_now d c left = subst (λ (s : State). MayLeave s.synced s.written c) (all_kept (start_of d.start) d.kept left.0 left.1) left.3
