use Rattle.std.proofs.Common.{rules, ◌≡◌, ◌<◌, ℕ, length, get_or, ap, sym, ◌∙◌}
use Rattle.std.specs.Prelude.{Some}
use Rattle.std.proofs.lemmas.Option.{slice_get-get_or}
use Rattle.ps_twin.specs.declared.twin.TwinSeat.{TwinSeat}
use Rattle.ps_twin_tests.specs.declared.diary.Entry.{Entry}
use Rattle.ps_twin_tests.specs.declared.diary.Diary.{Diary}
use Rattle.ps_twin_tests.specs.declared.diary.Journal.{Journal}
use Rattle.ps_twin_tests.specs.Writing.{IsReady}
use Rattle.ps_twin.proofs.Rows.{all_worked}
use Rattle.ps_twin_tests.proofs.writing.work_all.Goals as goal

pub for_each_mut-requires-clause-accepts : goal.for_each_mut-requires-clause-accepts
for_each_mut-requires-clause-accepts g c κs within i p low is =
    let new = c.requires.new.each i p.now (slice_get-get_or c.args.seats.now i p.now low ∙ ap Some (sym is)) in
    record { twin = new.twin; free = new.free; number = new.number }

pub returns : goal.returns
returns g c =
    let t = c.args.twin.now in
    let before = c.args.seats.now in
    let after = c.for_each_mut.new.s in
    let each : (k : ℕ) (d : TwinSeat Diary Journal Entry) → k < length before → IsReady t k (get_or after k d) = search rules in
    all_worked t before after c.requires.new c.for_each_mut.auto.s (λ k d low. (let r = each k d low in (r.twin, r.free, r.number)))
