use Rattle.std.proofs.Common.{ℕ, List, [], ◌∷◌, ◌++◌, rules, ap, ◌∙◌}
use Rattle.ps_turn.specs.History.{own, AllBy}
use Rattle.ps_turn.specs.Seats.{seen_of, number_of}
use Rattle.ps_turn_tests.specs.declared.visits.Visit.{Visit}
use Rattle.ps_turn.proofs.Owned.{own_more}
use Rattle.ps_turn_tests.proofs.visits.visit_once.Goals as goal

pub returns-clause-once : goal.returns-clause-once
returns-clause-once g c =
    let k = number_of c.args.seat.now in
    let maker : Visit → ℕ = λ v. v.by in
    let added : List Visit = record { by = k } ∷ [] in
    let ys = seen_of c.enter-visits.new.seat in
    let mine : AllBy maker k added = search rules in
    ap (own maker k) (c.leave.ensures.seen ∙ ap (λ (n : ℕ). ys ++ record { by = n } ∷ []) c.enter-visits.ensures.number)
    ∙ own_more maker k (seen_of c.args.seat.now) ys added c.enter-visits.ensures.later mine
