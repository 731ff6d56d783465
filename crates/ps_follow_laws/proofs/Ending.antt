-- Bytes lead to one list, one offset and one stop.
use Rattle.std.proofs.Common.{◌≡◌, ◌⊎◌, inl, inr, ℕ, true, false, List, [], ◌∷◌, ◌++◌, length, Some, None, refl, sym, ap, subst, ◌∙◌, append_assoc}
use Rattle.ps_types.specs.declared.entry.Entry.{Entry}
use Rattle.ps_follow_laws.specs.Feed.{
  AreTaken,
  Ends,
  Fate,
  Fed,
  IsNoEntry,
  IsPart,
  IsSent,
  Sent,
  Stop,
  Stops,
  adds,
  after_all,
  after_sent,
  bad,
  beyond,
  differs,
  entries_with,
  fate,
  feed_of,
  gap,
  goes_on,
  is_long,
  is_whole,
  other,
  refused,
  repeats,
  sent_bytes,
  stop_by,
}
use Rattle.ps_follow_laws.specs.Follow.{IsFront}
use Rattle.ps_follow_laws.proofs.Gets.{front-itself, front-more, front-trans}
use Rattle.ps_follow_laws.proofs.Heads.{clash, long-sent, sent_one, whole-sent}

-- ---- the stop

abbrev pub Kind : List Entry → List ℕ → Stop → Type 0
Kind E rest stop = (IsPart rest × (stop ≡ goes_on)) ⊎ (((is_long rest ≡ true) × (stop ≡ bad)) ⊎ ((IsNoEntry rest × (stop ≡ bad)) ⊎ Stops E rest stop))

pub kind-of : (E : List Entry) (rest : List ℕ) (stop : Stop) → Ends E rest stop → Kind E rest stop
kind-of E rest goes_on e = inl (e, refl)
kind-of E rest bad (inl long) = inr (inl (long, refl))
kind-of E rest bad (inr (inl none)) = inr (inr (inl (none, refl)))
kind-of E rest bad (inr (inr stops)) = inr (inr (inr stops))
kind-of E rest gap e = inr (inr (inr e))
kind-of E rest other e = inr (inr (inr e))

stops-short : (E : List Entry) (rest : List ℕ) (stop : Stop) → Stops E rest stop → is_long rest ≡ false
stops-short E rest stop s = ap is_long s.split ∙ long-sent s.sent s.more s.is

stops-part : (E : List Entry) (rest : List ℕ) (stop : Stop) → Stops E rest stop → IsPart rest → ⊥
stops-part E rest stop s part = clash _ (sym (ap is_whole s.split) ∙ part.part) (whole-sent s.sent s.more s.is)

stops-one : (E : List Entry) (rest : List ℕ) (stop end : Stop) → Stops E rest stop → Stops E rest end → stop ≡ end
stops-one E rest stop end s t =
    let p = sent_one s.sent t.sent s.more t.more s.is t.is (sym s.split ∙ t.split) in
    let both : Some stop ≡ Some end = sym s.stops ∙ ap (λ (q : Sent). stop_by (fate E q)) p.0 ∙ t.stops in
    cc both

one-stop : (E : List Entry) (rest : List ℕ) (stop end : Stop) → Kind E rest stop → Kind E rest end → stop ≡ end
one-stop E rest stop end (inl p) (inl q) = p.1 ∙ sym q.1
one-stop E rest stop end (inl p) (inr (inl q)) = absurd (clash (is_long rest) p.0.short q.0)
one-stop E rest stop end (inl p) (inr (inr (inl q))) = absurd (clash _ p.0.part q.0.whole)
one-stop E rest stop end (inl p) (inr (inr (inr q))) = absurd (stops-part E rest end q p.0)
one-stop E rest stop end (inr (inl p)) (inl q) = absurd (clash (is_long rest) q.0.short p.0)
one-stop E rest stop end (inr (inl p)) (inr (inl q)) = p.1 ∙ sym q.1
one-stop E rest stop end (inr (inl p)) (inr (inr (inl q))) = p.1 ∙ sym q.1
one-stop E rest stop end (inr (inl p)) (inr (inr (inr q))) = absurd (clash (is_long rest) (stops-short E rest end q) p.0)
one-stop E rest stop end (inr (inr (inl p))) (inl q) = absurd (clash _ q.0.part p.0.whole)
one-stop E rest stop end (inr (inr (inl p))) (inr (inl q)) = p.1 ∙ sym q.1
one-stop E rest stop end (inr (inr (inl p))) (inr (inr (inl q))) = p.1 ∙ sym q.1
one-stop E rest stop end (inr (inr (inl p))) (inr (inr (inr q))) = absurd (p.0.none q.sent q.more q.is q.split)
one-stop E rest stop end (inr (inr (inr p))) (inl q) = absurd (stops-part E rest stop p q.0)
one-stop E rest stop end (inr (inr (inr p))) (inr (inl q)) = absurd (clash (is_long rest) (stops-short E rest stop p) q.0)
one-stop E rest stop end (inr (inr (inr p))) (inr (inr (inl q))) = absurd (q.0.none p.sent p.more p.is p.split)
one-stop E rest stop end (inr (inr (inr p))) (inr (inr (inr q))) = stops-one E rest stop end p q

-- ---- a record that is taken is no stop

no-kind : (E : List Entry) (s : Sent) (more : List ℕ) (stop : Stop) → IsSent s → stop_by (fate E s) ≡ None → Kind E (sent_bytes s ++ more) stop → ⊥
no-kind E s more stop is taken (inl p) = clash _ p.0.part (whole-sent s more is)
no-kind E s more stop is taken (inr (inl p)) = clash _ (long-sent s more is) p.0
no-kind E s more stop is taken (inr (inr (inl p))) = p.0.none s more is refl
no-kind E s more stop is taken (inr (inr (inr p))) =
    let same = sent_one s p.sent more p.more is p.is p.split in
    let both : None ≡ Some stop = sym taken ∙ ap (λ (q : Sent). stop_by (fate E q)) same.0 ∙ p.stops in
    absurd (cc both)

pub no-stop : (E : List Entry) (s : Sent) (more rest : List ℕ) (stop : Stop) → IsSent s → stop_by (fate E s) ≡ None → rest ≡ sent_bytes s ++ more → Ends E rest stop → ⊥
no-stop E s more rest stop is taken split e = no-kind E s more stop is taken (kind-of E (sent_bytes s ++ more) stop (subst (λ (t : List ℕ). Ends E t stop) split e))

-- ---- the records

pub behind : (s : Sent) (sent : List Sent) (x : List ℕ) → feed_of (s ∷ sent) ++ x ≡ sent_bytes s ++ (feed_of sent ++ x)
behind s sent x = append_assoc (sent_bytes s) (feed_of sent) x

abbrev AreOne : List Sent → List Sent → List ℕ → List ℕ → Type 0
AreOne S T x y = (S ≡ T) × (x ≡ y)

lists-one : (S T : List Sent) (E : List Entry) (x y : List ℕ) (stop end : Stop) → AreTaken E S → AreTaken E T → Ends (after_all E S) x stop → Ends (after_all E T) y end
    → feed_of S ++ x ≡ feed_of T ++ y → AreOne S T x y
lists-one [] [] E x y stop end u v e f same = (refl, same)
lists-one [] (t ∷ T) E x y stop end u v e f same = absurd (no-stop E t (feed_of T ++ y) x stop v.0 v.1.0 (same ∙ behind t T y) e)
lists-one (s ∷ S) [] E x y stop end u v e f same = absurd (no-stop E s (feed_of S ++ x) y end u.0 u.1.0 (sym same ∙ behind s S x) f)
lists-one (s ∷ S) (t ∷ T) E x y stop end u v e f same =
    let p = sent_one s t (feed_of S ++ x) (feed_of T ++ y) u.0 v.0 (sym (behind s S x) ∙ same ∙ behind t T y) in
    let r = lists-one S T (after_sent E s) x y stop end u.1.1 (subst (λ (q : Sent). AreTaken (after_sent E q) T) (sym p.0) v.1.1) e
    (subst (λ (q : Sent). Ends (after_all (after_sent E q) T) y end) (sym p.0) f) p.1 in
    ((λ i. p.0 i ∷ r.0 i), r.1)

pub feeds-one : (E F G : List Entry) (bytes : List ℕ) (at later : ℕ) (stop end : Stop) → Fed E bytes F at stop → Fed E bytes G later end → (F ≡ G) × ((at ≡ later) × (stop ≡ end))
feeds-one E F G bytes at later stop end f g =
    let e = subst (λ (H : List Entry). Ends H f.rest stop) f.entries f.ends in
    let h = subst (λ (H : List Entry). Ends H g.rest end) g.entries g.ends in
    let r = lists-one f.sent g.sent E f.rest g.rest stop end f.taken g.taken e h (sym f.split ∙ g.split) in
    let same : after_all E f.sent ≡ after_all E g.sent = ap (after_all E) r.0 in
    let h' = subst (λ (H : List Entry). Ends H g.rest end) (sym same) h in
    let h'' = subst (λ (t : List ℕ). Ends (after_all E f.sent) t end) (sym r.1) h' in (
      f.entries ∙ same ∙ sym g.entries,
      (
        f.offset ∙ ap (λ (S : List Sent). length (feed_of S)) r.0 ∙ sym g.offset,
        one-stop (after_all E f.sent) f.rest stop end (kind-of (after_all E f.sent) f.rest stop e) (kind-of (after_all E f.sent) f.rest end h''),
      ),
    )

-- ---- entries only come

with-grows : (f : Fate) (E : List Entry) (e : Entry) → IsFront E (entries_with f E e)
with-grows adds E e = front-more E (e ∷ [])
with-grows repeats E e = front-itself E
with-grows refused E e = front-itself E
with-grows beyond E e = front-itself E
with-grows differs E e = front-itself E

pub grows : (E : List Entry) (S : List Sent) → IsFront E (after_all E S)
grows E [] = front-itself E
grows E (s ∷ S) = front-trans E (after_sent E s) (after_all (after_sent E s) S) (with-grows (fate E s) E s.entry) (grows (after_sent E s) S)

fronts : (S T : List Sent) (E : List Entry) (x y : List ℕ) (end : Stop) → AreTaken E S → AreTaken E T → Ends (after_all E T) y end → feed_of S ++ x ≡ feed_of T ++ y
    → IsFront (after_all E S) (after_all E T)
fronts [] T E x y end u v f same = grows E T
fronts (s ∷ S) [] E x y end u v f same = absurd (no-stop E s (feed_of S ++ x) y end u.0 u.1.0 (sym same ∙ behind s S x) f)
fronts (s ∷ S) (t ∷ T) E x y end u v f same =
    let p = sent_one s t (feed_of S ++ x) (feed_of T ++ y) u.0 v.0 (sym (behind s S x) ∙ same ∙ behind t T y) in
    let r = fronts S T (after_sent E s) x y end u.1.1 (subst (λ (q : Sent). AreTaken (after_sent E q) T) (sym p.0) v.1.1)
    (subst (λ (q : Sent). Ends (after_all (after_sent E q) T) y end) (sym p.0) f) p.1 in
    subst (λ (q : Sent). IsFront (after_all (after_sent E s) S) (after_all (after_sent E q) T)) p.0 r

pub pieces-keep : (E F G : List Entry) (front back : List ℕ) (at later : ℕ) (stop end : Stop) → Fed E front F at stop → Fed E (front ++ back) G later end → IsFront F G
pieces-keep E F G front back at later stop end f g =
    let h = subst (λ (H : List Entry). Ends H g.rest end) g.entries g.ends in
    let same : feed_of f.sent ++ (f.rest ++ back) ≡ feed_of g.sent ++ g.rest = sym (append_assoc (feed_of f.sent) f.rest back) ∙ ap (λ (t : List ℕ). t ++ back) (sym f.split) ∙ g.split in
    let r = fronts f.sent g.sent E (f.rest ++ back) g.rest end f.taken g.taken h same in
    subst (λ (H : List Entry). IsFront H G) (sym f.entries) (subst (λ (H : List Entry). IsFront (after_all E f.sent) H) (sym g.entries) r)
