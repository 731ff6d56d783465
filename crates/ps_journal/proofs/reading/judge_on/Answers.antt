use Rattle.std.proofs.Common.{List, ℕ, None, Some, Option, inl, refl, ◌∙◌, take, ap, sym, subst, arith}
use Rattle.ps_model.specs.Store.{is_header, is_unbegun}
use Rattle.ps_journal.specs.Judged.{FramesRead, Judged}
use Rattle.ps_journal.proofs.Opens.{stopped_there, all_placed, before_stop}
use Rattle.ps_journal.proofs.Readings.{front_header, front_unbegun}
use Rattle.ps_journal.proofs.reading.judge_on.Goals as goal

pub returns-then-is_unbegun-clause-found : goal.returns-then-is_unbegun-clause-found
returns-then-is_unbegun-clause-found g c t =
    let seen = g.D.Disk.seen c.args.disk.now in
    let same = c.requires.front t in (
      sym (front_header seen) ∙ sym (ap (λ (l : List ℕ). is_header (take 8 l)) same) ∙ sym c.if-not-has_header.ensures.value,
      sym (front_unbegun seen) ∙ sym (ap is_unbegun same) ∙ sym c.if-is_unbegun.ensures,
      c.requires.stands,
    )

pub returns-then-not-has_header-clause-found : goal.returns-then-not-has_header-clause-found
returns-then-not-has_header-clause-found g c t =
    let seen = g.D.Disk.seen c.args.disk.now in
    let same = c.requires.front t in
    inl (record {
      no_header = sym (front_header seen) ∙ sym (ap (λ (l : List ℕ). is_header (take 8 l)) same) ∙ sym c.if-not-has_header.ensures.value;
      begun = sym (front_unbegun seen) ∙ sym (ap is_unbegun same) ∙ sym c.if-is_unbegun.ensures;
      at_first = refl;
    })

pub returns-in-None-clause-sound : goal.returns-in-None-clause-sound
returns-in-None-clause-sound g c =
    let s = c.in-Ok.ensures.sound in
    let all = subst (λ (stop : Option ℕ). Judged g.T.Taker.refused c.is_second.result s.bodies c.in-Ok.trail.items stop) c.in-None.is s.judged in
    (all_placed c.is_second.result s.bodies c.in-Ok.trail.items s.each all, c.in-Ok.ensures.stands c.args.taker.now c.requires.stands, omega (arith, c.in-Ok.ensures.within, c.ranges.total.fits))

pub returns-in-Some-clause-found : goal.returns-in-Some-clause-found
returns-in-Some-clause-found g c t =
    let refused = g.T.Taker.refused in
    let seen = g.D.Disk.seen c.args.disk.now in
    let read = subst (λ (stop : Option ℕ). FramesRead refused seen c.in-Ok.trail.items stop c.in-Ok.gate) c.in-Some.is (c.in-Ok.ensures.read t) in
    stopped_there (g.T.Taker.stands c.args.taker.now c.frames_on.new.taker) refused seen c.in-Ok.trail.items c.in-Some.at c.in-Ok.gate (c.in-Ok.ensures.stands c.args.taker.now c.requires.stands) read

pub returns-in-Some-clause-sound : goal.returns-in-Some-clause-sound
returns-in-Some-clause-sound g c =
    let s = c.in-Ok.ensures.sound in
    let stopped = subst (λ (stop : Option ℕ). Judged g.T.Taker.refused c.is_second.result s.bodies c.in-Ok.trail.items stop) c.in-Some.is s.judged in
    before_stop g.T.Taker.refused c.is_second.result s.bodies c.in-Ok.trail.items c.in-Some.at stopped
