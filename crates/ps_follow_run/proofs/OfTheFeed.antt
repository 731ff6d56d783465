-- The answers of a follower of one lawful list.
use Rattle.std.proofs.Common.{◌≡◌, ℕ, zero, suc, ◌≤◌, arith, List, [], ◌∷◌, ◌++◌, take, drop, refl, sym, ap, subst, ◌∙◌, append_assoc}
use Rattle.std.proofs.lemmas.List.{take-append-drop}
use Rattle.ps_types.specs.declared.entry.Entry.{Entry}
use Rattle.ps_model.specs.Replay.{lawful}
use Rattle.ps_follow_laws.specs.Feed.{Fed, goes_on}
use Rattle.ps_follow_laws.specs.Follow.{IsFeedOf, IsFront}
use Rattle.ps_follow_laws.proofs.Ending.{pieces-keep}
use Rattle.ps_follow_laws.proofs.Streaming.{feed-good}
use Rattle.ps_follow_run.specs.Following.{Answered, AreAnswered, LeadsTo}
use Rattle.ps_follow_run.specs.Laws.{AreOf}

front-of : (E : List Entry) (feed : List ℕ) (n : ℕ) → IsFeedOf E feed → IsFeedOf E (take n feed)
front-of E feed n of = record {
  sent = of.sent;
  missing = drop n feed ++ of.missing;
  each = of.each;
  split = sym (append_assoc (take n feed) (drop n feed) of.missing) ∙ ap (λ (t : List ℕ). t ++ of.missing) (take-append-drop n feed) ∙ of.split;
}

shorter : (xs : List ℕ) (n m : ℕ) → n ≤ m → take n (take m xs) ≡ take n xs
shorter xs zero m le = refl
shorter [] (suc n) zero le = refl
shorter [] (suc n) (suc m) le = refl
shorter (x ∷ xs) (suc n) zero le = absurd (omega (arith, le))
shorter (x ∷ xs) (suc n) (suc m) le = ap (λ (t : List ℕ). x ∷ t) (shorter xs n m (omega (arith, le)))

-- the first bytes, and those behind them
cut : (feed : List ℕ) (n m : ℕ) → n ≤ m → (rest : List ℕ) × (take m feed ≡ take n feed ++ rest)
cut feed n m le = (drop n (take m feed), sym (take-append-drop n (take m feed)) ∙ ap (λ (t : List ℕ). t ++ drop n (take m feed)) (shorter feed n m le))

begin : (feed : List ℕ) → LeadsTo feed 0 []
begin feed = record { within = omega arith; at = 0; fed = record { sent = []; rest = []; taken = tt; split = refl; offset = refl; entries = refl; ends = record { short = refl; part = refl } } }

module _ (E : List Entry) (ok : lawful E) (feed : List ℕ) (of : IsFeedOf E feed) (Ended : Type 0) where
  grow : (n m : ℕ) (F G : List Entry) → n ≤ m → LeadsTo feed n F → LeadsTo feed m G → IsFront F G
  grow n m F G le f g =
      let c = cut feed n m le in
      pieces-keep [] F G (take n feed) c.0 f.at g.at goes_on goes_on f.fed (subst (λ (t : List ℕ). Fed [] t G g.at goes_on) c.1 g.fed)

  of-front : (n : ℕ) (F : List Entry) → LeadsTo feed n F → IsFront F E
  of-front n F f = (feed-good E [] F (take n feed) f.at goes_on ok (E, refl) (front-of E feed n of) f.fed).0

  go : (k n : ℕ) (before : List Entry) → LeadsTo feed n before → (rest : List Answered) → AreAnswered feed Ended k n rest → AreOf E before rest
  go k n before lead [] le = tt
  go k n before lead (a ∷ rest) i = (of-front a.taken a.entries i.0.leads, (grow n a.taken before a.entries i.0.later lead i.0.leads, go (suc k) a.taken a.entries i.0.leads rest i.1))

  pub each-of : (rest : List Answered) → AreAnswered feed Ended 1 0 rest → AreOf E [] rest
  each-of rest i = go 1 0 [] (begin feed) rest i
