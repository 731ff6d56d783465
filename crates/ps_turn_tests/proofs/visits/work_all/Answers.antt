use Rattle.std.proofs.Common.{rules, ◌≡◌, ◌<◌, ℕ, List, [], ◌∷◌, ◌++◌, length, get_or, arith, ap, sym, ◌∙◌, subst}
use Rattle.std.specs.Prelude.{Some}
use Rattle.std.proofs.lemmas.Option.{slice_get-get_or, slice_get_within, get_or_from_slice_get}
use Rattle.ps_turn.specs.History.{own}
use Rattle.ps_turn.specs.Seats.{seen_of, number_of, IsSeatOf, IsFree}
use Rattle.ps_turn.specs.declared.turn.Seat.{Seat}
use Rattle.ps_turn_tests.specs.declared.visits.Visit.{Visit}
use Rattle.ps_turn_tests.specs.declared.visits.Visits.{Visits}
use Rattle.ps_turn.proofs.Rows.{all_worked}
use Rattle.ps_turn_tests.proofs.visits.work_all.Goals as goal

pub for_each_mut-requires-clause-accepts : goal.for_each_mut-requires-clause-accepts
for_each_mut-requires-clause-accepts g c κs within i p low is =
    let new = c.requires.new.each i p.now (slice_get-get_or c.args.seats.now i p.now low ∙ ap Some (sym is)) in
    (new.turn, new.free)

pub returns-clause-all : goal.returns-clause-all
returns-clause-all g c =
    let t = c.args.turn.now in
    let before = c.args.seats.now in
    let after = c.for_each_mut.new.s in
    let each : (k : ℕ) (d : Seat Visits Visit) → k < length before
    → IsSeatOf t (get_or after k d) × IsFree (get_or after k d) × (number_of (get_or after k d) ≡ number_of (get_or before k d)) = search rules in
    all_worked t before after c.requires.new c.for_each_mut.auto.s each

pub returns-clause-visited : goal.returns-clause-visited
returns-clause-visited g c k s e =
    let before = c.args.seats.now in
    let after = c.for_each_mut.new.s in
    let low : k < length before = omega (arith, c.for_each_mut.auto.s, slice_get_within after k s e) in
    let new = c.requires.new.each k (get_or before k s) (slice_get-get_or before k s low) in
    let is : get_or after k s ≡ s = get_or_from_slice_get after k s s e in
    let visit : ℕ → Visit = λ n. record { by = n } in
    let mine : ℕ → List Visit → List Visit = λ n l. own (λ (v : Visit). v.by) n l in
    let same : number_of (get_or after k s) ≡ number_of (get_or before k s) = search rules in
    let once : mine (number_of (get_or before k s)) (seen_of (get_or after k s)) ≡ mine (number_of (get_or before k s)) (seen_of (get_or before k s)) ++ visit (number_of (get_or before k s)) ∷ [] =
    search rules in
    let at_k : mine k (seen_of (get_or after k s)) ≡ mine k [] ++ visit k ∷ [] =
    subst (λ (y : ℕ × List Visit). mine y.0 (seen_of (get_or after k s)) ≡ mine y.0 y.1 ++ visit y.0 ∷ []) (λ j. (new.number j, new.seen j)) once in
    subst (λ (u : Seat Visits Visit). (number_of u ≡ k) × (mine k (seen_of u) ≡ visit k ∷ [])) is (same ∙ new.number, at_k)
