use Rattle.std.proofs.Common.{◌≡◌, ◌≤◌, ◌<◌, ◌-◌, ◌^◌, sym, ◌∙◌, ap, subst, arith, length, ℕ, List}
use Rattle.std.specs.Prelude.{Some, None, slice_get}
use Rattle.std.proofs.lemmas.Option.{slice_get-get_or, slice_get_past}
use Rattle.ps_io.specs.MemClock.{ClockView, told_by}
use Rattle.ps_io.specs.Clock.{noted}
use Rattle.ps_io.proofs.Clocks.{told_next}
use Rattle.ps_io.proofs.mem_clock.MemClockClock.now.Goals as goal

pub returns-in-Some-clause-told : goal.returns-in-Some-clause-told
returns-in-Some-clause-told c =
    let items = c.self.inside.answers.items in
    let h = c.in-Some.ensures.lookup in
    let within : c.self.inside.calls < length c.deref.result.now = omega arith in
    let at : c.self.inside.calls ≤ 2 ^ 64 - 1 = omega arith in
    let got : slice_get items c.self.inside.calls ≡ Some c.in-Some.answer.now = subst (λ (l : List ℕ). slice_get l c.self.inside.calls ≡ Some c.in-Some.answer.now) c.deref.ensures.value
    (slice_get-get_or c.deref.result.now c.self.inside.calls c.in-Some.answer.now within ∙ ap Some (sym h.1)) in
    ap Some (told_next items c.self.inside.calls c.saturating_add-self-inside.result (Some c.in-Some.answer.now) got c.saturating_add-self-inside.ensures at ∙ ap
    (λ (v : ClockView). noted (told_by v.answers v.calls) (Some c.in-Some.answer.now)) c.self.view_is)

pub returns-in-None-clause-told : goal.returns-in-None-clause-told
returns-in-None-clause-told c =
    let items = c.self.inside.answers.items in
    let h = c.in-None.ensures.lookup in
    let past : length items ≤ c.self.inside.calls = subst (λ (l : List ℕ). length l ≤ c.self.inside.calls) c.deref.ensures.value h.3 in
    let at : c.self.inside.calls ≤ 2 ^ 64 - 1 = omega arith in
    ap Some (told_next items c.self.inside.calls c.saturating_add-self-inside.result None (slice_get_past items c.self.inside.calls past) c.saturating_add-self-inside.ensures at ∙ ap
    (λ (v : ClockView). noted (told_by v.answers v.calls) None) c.self.view_is)
