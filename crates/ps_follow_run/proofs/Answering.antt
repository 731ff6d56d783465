-- Lines that are answered while the feed goes on.
use Rattle.std.proofs.Common.{◌≡◌, ◌⊎◌, inl, inr, ℕ, suc, ◌+◌, ◌≤◌, arith, List, [], ◌∷◌, ◌++◌, length, refl, ap, sym, ◌∙◌, subst, append_assoc, append-nil, length-append}
use Rattle.std.proofs.lemmas.List.{take-append-le, take_all}
use Rattle.ps_types.specs.declared.entry.Arrival.{Arrival}
use Rattle.ps_types.specs.declared.entry.Entry.{Entry}
use Rattle.ps_follow_laws.specs.Feed.{Fed, goes_on}
use Rattle.ps_follow_run.specs.Following.{Answered, AreAnswered, IsAnswered, LeadsTo, arrivals_of, reply_at, said, said_from}

-- ---- the entries that bytes lead to

leads-on : (feed piece : List ℕ) (n : ℕ) (E : List Entry) → LeadsTo feed n E → LeadsTo (feed ++ piece) n E
leads-on feed piece n E l = record {
  within = let w = l.within in let a = length-append feed piece in omega (arith, w, a);
  at = l.at;
  fed = subst (λ (t : List ℕ). Fed [] t E l.at goes_on) (sym (take-append-le n feed piece l.within)) l.fed;
}

pub leads-whole : (feed : List ℕ) (E : List Entry) (at : ℕ) → Fed [] feed E at goes_on → LeadsTo feed (length feed) E
leads-whole feed E at f = record { within = omega arith; at = at; fed = subst (λ (t : List ℕ). Fed [] t E at goes_on) (sym (take_all (length feed) feed (omega arith))) f }

-- ---- more of the feed

module _ (feed piece : List ℕ) (Before Now : Type 0) (none : Before → piece ≡ []) (still : Before → Now) where
  whole-on : Before → (n : ℕ) → n ≡ length feed → n ≡ length (feed ++ piece)
  whole-on b n e = e ∙ ap (λ (t : List ℕ). length t) (sym (append-nil feed) ∙ ap (λ (p : List ℕ). feed ++ p) (sym (none b)))

  many-on : (k n : ℕ) → (k ≤ n) ⊎ (Before × (n ≡ length feed)) → (k ≤ n) ⊎ (Now × (n ≡ length (feed ++ piece)))
  many-on k n (inl le) = inl le
  many-on k n (inr p) = inr (still p.0, whole-on p.0 n p.1)

  answered-one : (k before : ℕ) (a : Answered) → IsAnswered feed Before k before a → IsAnswered (feed ++ piece) Now k before a
  answered-one k before a i = record { later = i.later; many = many-on k a.taken i.many; leads = leads-on feed piece a.taken a.entries i.leads }

  pub answered-on : (k before : ℕ) (xs : List Answered) → AreAnswered feed Before k before xs → AreAnswered (feed ++ piece) Now k before xs
  answered-on k before [] le = let a = length-append feed piece in omega (arith, le, a)
  answered-on k before (a ∷ xs) i = (answered-one k before a i.0, answered-on (suc k) a.taken xs i.1)

-- the same where only what is known of the end changes
pub answered-as : (feed : List ℕ) (Before Now : Type 0) → (Before → Now) → (k before : ℕ) (xs : List Answered) → AreAnswered feed Before k before xs → AreAnswered feed Now k before xs
answered-as feed Before Now f k before [] le = le
answered-as feed Before Now f k before (a ∷ xs) i = (record { later = i.0.later; many = by i.0.many; leads = i.0.leads }, answered-as feed Before Now f (suc k) a.taken xs i.1)
  where
    by : (k ≤ a.taken) ⊎ (Before × (a.taken ≡ length feed)) → (k ≤ a.taken) ⊎ (Now × (a.taken ≡ length feed))
    by (inl le) = inl le
    by (inr p) = inr (f p.0, p.1)

-- ---- one line more

-- a line that is answered at all that was taken
abbrev pub at_all : List ℕ → Arrival → List Entry → Answered
at_all feed arrival E = record { arrival = arrival; taken = length feed; entries = E }

module _ (feed : List ℕ) (Ended : Type 0) (arrival : Arrival) (E : List Entry) (leads : LeadsTo feed (length feed) E) where
  pub answered-more : (k before line : ℕ) (xs : List Answered) → AreAnswered feed Ended k before xs → line ≡ k + length xs → (line ≤ length feed) ⊎ Ended
      → AreAnswered feed Ended k before (xs ++ at_all feed arrival E ∷ [])
  answered-more k before line [] le n many = (
    record { later = le; many = by many; leads = leads },
    (let h : length feed ≤ length feed = omega arith in h),
  )
    where
      by : (line ≤ length feed) ⊎ Ended → (k ≤ length feed) ⊎ (Ended × (length feed ≡ length feed))
      by (inl l) = inl (omega (arith, l, n))
      by (inr e) = inr (e, refl)
  answered-more k before line (a ∷ xs) i n many = (i.0, answered-more (suc k) a.taken line xs i.1 (omega (arith, n)) many)

pub said-more : (host : List ℕ) (k line : ℕ) (xs : List Answered) (a : Answered) → line ≡ k + length xs → said_from host k (xs ++ a ∷ []) ≡ said_from host k xs ++ said (reply_at host line a)
said-more host k line [] a n = append-nil (said (reply_at host k a)) ∙ ap (λ (m : ℕ). said (reply_at host m a)) (let e : k ≡ line = omega (arith, n) in e)
said-more host k line (b ∷ xs) a n =
    ap (λ (t : List ℕ). said (reply_at host k b) ++ t) (said-more host (suc k) line xs a (omega (arith, n)))
    ∙ sym (append_assoc (said (reply_at host k b)) (said_from host (suc k) xs) (said (reply_at host line a)))

pub arrivals-more : (xs : List Answered) (a : Answered) → arrivals_of (xs ++ a ∷ []) ≡ arrivals_of xs ++ a.arrival ∷ []
arrivals-more [] a = refl
arrivals-more (b ∷ xs) a = ap (λ (t : List Arrival). b.arrival ∷ t) (arrivals-more xs a)

pub length-more : (xs : List Answered) (a : Answered) → length (xs ++ a ∷ []) ≡ suc (length xs)
length-more xs a = let l = length-append xs (a ∷ []) in omega (arith, l)
