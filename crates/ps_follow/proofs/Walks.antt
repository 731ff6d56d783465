-- Records are taken one after the other.
use Rattle.std.proofs.Common.{
  ◌≡◌,
  inr,
  ℕ,
  ◌+◌,
  ◌-◌,
  ◌<◌,
  ◌≤◌,
  arith,
  List,
  [],
  ◌∷◌,
  ◌++◌,
  length,
  take,
  drop,
  Some,
  None,
  refl,
  sym,
  ap,
  subst,
  ◌∙◌,
  append_assoc,
  append-nil,
  length-append,
  length-drop,
}
use Rattle.std.proofs.lemmas.List.{drop-drop, take_all}
use Rattle.std.proofs.lemmas.List.Concat.{flat_map-append}
use Rattle.ps_types.specs.declared.entry.Entry.{Entry}
use Rattle.ps_model.specs.Book.{State}
use Rattle.ps_follow_laws.specs.Feed.{
  AreTaken,
  Fate,
  IsPart,
  Sent,
  Stop,
  Stops,
  adds,
  after_all,
  after_sent,
  bad,
  beyond,
  differs,
  entries_with,
  fate,
  feed_of,
  gap,
  other,
  refused,
  repeats,
  sent_bytes,
  stop_by,
}
use Rattle.ps_follow_laws.proofs.Piecewise.{after-both, taken-both}
use Rattle.ps_follow_laws.proofs.Heads.{length-sent}
use Rattle.ps_follow.specs.Feeding.{Going, Stopped, TookOne, Went}
use Rattle.ps_follow.specs.Following.{Stands, TakesAs}
use Rattle.ps_follow.specs.Next.{IsRecord}
use Rattle.ps_follow.specs.declared.feeding.End.TheVariants as end
use Rattle.ps_follow.specs.declared.taking.Took.TheVariants.{Taken, Bad, Gap, Differs}

-- ---- one record

same-entries : (f : Fate) (stop : Stop) (E : List Entry) (e : Entry) → Some stop ≡ stop_by f → entries_with f E e ≡ E
same-entries adds stop E e h = absurd (let none : Some stop ≡ None = h in cc none)
same-entries repeats stop E e h = refl
same-entries refused stop E e h = refl
same-entries beyond stop E e h = refl
same-entries differs stop E e h = refl

module _ (E : List Entry) (bytes : List ℕ) (state : State) (log : List (List ℕ)) (s : Sent) (size : ℕ) (is : IsRecord bytes s size) where
  pub took-one : TakesAs E s state log Taken → TookOne E bytes state log size
  took-one t = record { sent = s; is = is.is; split = is.split; long = is.long; taken = sym t.stop; stands = t.stands }

  stays : (stop : Stop) → Some stop ≡ stop_by (fate E s) → Stands state log (after_sent E s) → Stands state log E
  stays stop h stands = subst (Stands state log) (same-entries (fate E s) stop E s.entry h) stands

  stops : (stop : Stop) → Some stop ≡ stop_by (fate E s) → Stops E bytes stop
  stops stop h = record { sent = s; more = drop size bytes; is = is.is; split = is.split; stops = sym h }

  pub stopped-bad : TakesAs E s state log Bad → Stopped E bytes state log end.Bad
  stopped-bad t = record { stands = stays bad t.stop t.stands; ends = inr (inr (stops bad t.stop)) }

  pub stopped-gap : TakesAs E s state log Gap → Stopped E bytes state log end.Gap
  stopped-gap t = record { stands = stays gap t.stop t.stands; ends = stops gap t.stop }

  pub stopped-other : TakesAs E s state log Differs → Stopped E bytes state log end.Differs
  stopped-other t = record { stands = stays other t.stop t.stands; ends = stops other t.stop }

-- ---- one more

drop-more : (m n : ℕ) (xs : List ℕ) → drop n (drop m xs) ≡ drop (m + n) xs
drop-more m n xs = drop-drop n m xs

one-longer : (at size : ℕ) (x y : List ℕ) → at ≡ length x → size ≡ length y → at + size ≡ length (x ++ y)
one-longer at size x y e f = omega (arith, e, f, length-append x y)

pub going-on : (E : List Entry) (bytes : List ℕ) (from size : ℕ) (state later : State) (log more : List (List ℕ)) → (g : Going E bytes from state log)
    → TookOne g.entries (drop from bytes) later more size → Going E bytes (from + size) later more
going-on E bytes from size state later log more g t =
    let S = g.goes.sent in
    let s = t.sent in
    let whole : feed_of (S ++ s ∷ []) ≡ feed_of S ++ sent_bytes s = flat_map-append sent_bytes S (s ∷ []) ∙ ap (λ (x : List ℕ). feed_of S ++ x) (append-nil (sent_bytes s)) in
    let one : AreTaken (after_all E S) (s ∷ []) = subst (λ (H : List Entry). AreTaken H (s ∷ [])) g.goes.entries (t.is, (t.taken, tt)) in
    record {
      entries = after_sent g.entries s;
      goes = record {
        sent = S ++ s ∷ [];
        taken = taken-both S (s ∷ []) E g.goes.taken one;
        split = g.goes.split ∙ ap (λ (x : List ℕ). feed_of S ++ x) (t.split ∙ ap (λ (x : List ℕ). sent_bytes s ++ x) (drop-more from size bytes))
            ∙ sym (append_assoc (feed_of S) (sent_bytes s) (drop (from + size) bytes)) ∙ ap (λ (x : List ℕ). x ++ drop (from + size) bytes) (sym whole);
        offset = one-longer from size (feed_of S) (sent_bytes s) g.goes.offset t.long ∙ ap (λ (x : List ℕ). length x) (sym whole);
        entries = ap (λ (H : List Entry). after_sent H s) g.goes.entries ∙ sym (after-both S (s ∷ []) E);
      };
      stands = t.stands;
    }

pub size-within : (E : List Entry) (bytes : List ℕ) (from size : ℕ) (state : State) (log : List (List ℕ)) → TookOne E (drop from bytes) state log size → from ≤ length bytes
    → (from + size ≤ length bytes) × (0 < size)
size-within E bytes from size state log t h =
    let l = ap (λ (x : List ℕ). length x) t.split in
    let a = length-append (sent_bytes t.sent) (drop size (drop from bytes)) in
    let d = length-drop from bytes in
    let k = length-sent t.sent in
    let n = t.long in
    (omega (arith, l, a, d, n, h), omega (arith, k, n))

-- ---- a walk

pub record Walk (before : State) (had : List (List ℕ)) (bytes : List ℕ) (from : ℕ) (state : State) (log : List (List ℕ)) : Type 0 where
  pub within : from ≤ length bytes
  pub going : (E : List Entry) → Stands before had E → Going E bytes from state log

pub begun : (state : State) (log : List (List ℕ)) (bytes : List ℕ) → Walk state log bytes 0 state log
begun state log bytes = record { within = omega arith; going = λ E is. record { entries = E; goes = record { sent = []; taken = tt; split = refl; offset = refl; entries = refl }; stands = is } }

pub ended : (before state : State) (had log : List (List ℕ)) (bytes : List ℕ) (from : ℕ) → Walk before had bytes from state log → length bytes ≤ from → (E : List Entry) → Stands before had E
    → Went E bytes state log from end.Part
ended before state had log bytes from w h E is =
    let g = w.going E is in
    let none : drop from bytes ≡ [] = empty (drop from bytes) (let d = length-drop from bytes in omega (arith, d, h)) in
    record { entries = g.entries; goes = g.goes; stands = g.stands; ends = subst IsPart (sym none) (record { short = refl; part = refl }) }
  where
    empty : (xs : List ℕ) → length xs ≡ 0 → xs ≡ []
    empty [] e = refl
    empty (x ∷ xs) e = absurd (omega (arith, e))

-- what is behind an offset, as a slice
pub rest-is : (bytes : List ℕ) (from : ℕ) → take (length bytes - from) (drop from bytes) ≡ drop from bytes
rest-is bytes from = take_all (length bytes - from) (drop from bytes) (let d = length-drop from bytes in omega (arith, d))
