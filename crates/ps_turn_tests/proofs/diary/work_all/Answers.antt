use Rattle.std.proofs.Common.{rules, ◌≡◌, ◌<◌, ℕ, length, get_or, ap, sym, ◌∙◌}
use Rattle.std.specs.Prelude.{Some}
use Rattle.std.proofs.lemmas.Option.{slice_get-get_or}
use Rattle.ps_turn.specs.Seats.{number_of, IsSeatOf, IsFree}
use Rattle.ps_turn.specs.declared.turn.Seat.{Seat}
use Rattle.ps_turn_tests.specs.declared.diary.Entry.{Entry}
use Rattle.ps_turn_tests.specs.declared.diary.Diary.{Diary}
use Rattle.ps_turn.proofs.Rows.{all_worked}
use Rattle.ps_turn_tests.proofs.diary.work_all.Goals as goal

pub for_each_mut-requires-clause-accepts : goal.for_each_mut-requires-clause-accepts
for_each_mut-requires-clause-accepts g c κs within i p low is =
    let new = c.requires.new.each i p.now (slice_get-get_or c.args.seats.now i p.now low ∙ ap Some (sym is)) in
    (new.turn, new.free, new.number)

pub returns : goal.returns
returns g c =
    let t = c.args.turn.now in
    let before = c.args.seats.now in
    let after = c.for_each_mut.new.s in
    let each : (k : ℕ) (d : Seat Diary Entry) → k < length before
    → IsSeatOf t (get_or after k d) × IsFree (get_or after k d) × (number_of (get_or after k d) ≡ number_of (get_or before k d)) = search rules in
    all_worked t before after c.requires.new c.for_each_mut.auto.s each
