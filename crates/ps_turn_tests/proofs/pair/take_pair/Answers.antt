use Rattle.std.proofs.Common.{◌≡◌, ℕ, List, [], ◌∷◌, ◌++◌, length, length-append, append_assoc, arith, ap, ◌∙◌, subst}
use Rattle.std.specs.Prelude.{slice_get}
use Rattle.std.specs.Option.{option_to_list}
use Rattle.ps_turn.specs.Seats.{IsNew}
use Rattle.ps_turn.specs.declared.turn.Seat.{Seat}
use Rattle.ps_turn_tests.specs.declared.diary.Entry.{Entry}
use Rattle.ps_turn_tests.specs.declared.diary.Diary.{Diary}
use Rattle.ps_turn.proofs.Rows.{get_middle}
use Rattle.ps_turn_tests.proofs.pair.take_pair.Goals as goal

pub returns-clause-first : goal.returns-clause-first
returns-clause-first c =
    let x = c.unwrap-first.result in
    let y = c.unwrap-second.result in
    let left : List (Seat Diary Entry) = c.pop-2.new.self.items in
    let rest : c.pop.new.self.items ≡ left ++ x ∷ [] = c.pop-2.ensures.items ∙ ap (λ o. left ++ option_to_list o) c.unwrap-first.ensures in
    let all : c.args.seats.items ≡ (left ++ x ∷ []) ++ y ∷ [] = c.pop.ensures.items ∙ (ap (λ o. c.pop.new.self.items ++ option_to_list o) c.unwrap-second.ensures ∙ ap (λ l. l ++ y ∷ []) rest) in
    let none : length left ≡ 0 = omega (arith, ap length all, length-append (left ++ x ∷ []) (y ∷ []), length-append left (x ∷ []), c.requires.1, c.args.seats.ok.0) in
    subst (λ (n : ℕ). IsNew c.args.turn.now n x) none (c.requires.0.each (length left) x (ap (λ l. slice_get l (length left)) (all ∙ append_assoc left (x ∷ []) (y ∷ [])) ∙ get_middle left x (y ∷ [])))

pub returns-clause-second : goal.returns-clause-second
returns-clause-second c =
    let y = c.unwrap-second.result in
    let left : List (Seat Diary Entry) = c.pop.new.self.items in
    let all : c.args.seats.items ≡ left ++ y ∷ [] = c.pop.ensures.items ∙ ap (λ o. left ++ option_to_list o) c.unwrap-second.ensures in
    let one : length left ≡ 1 = omega (arith, ap length all, length-append left (y ∷ []), c.requires.1, c.args.seats.ok.0) in
    subst (λ (n : ℕ). IsNew c.args.turn.now n y) one (c.requires.0.each (length left) y (ap (λ l. slice_get l (length left)) all ∙ get_middle left y []))
