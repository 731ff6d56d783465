use Rattle.std.proofs.Common.{◌≡◌, ◌≤◌, inr, ℕ, List, refl, subst, sym}
use Rattle.std.specs.Prelude.{Ok, Err}
use Rattle.ps_commands.specs.Words.{command_of}
use Rattle.ps_status.specs.Outside.{SameStreams, outside}
use Rattle.ps_status.specs.Statuses.{report_of}
use Rattle.ps_status.specs.Telling.{OnlyTells, TellsText, reported_from, text_of}
use Rattle.ps_status.specs.declared.status.Status.TheVariants.{OpenFault, Usage}
use Rattle.ps_status.proofs.Asking.{asked-then}
use Rattle.ps_status.proofs.Counts.{report-moved, text-moved}
use Rattle.ps_serve.specs.Compacting.{Compacts, compacted_by}
use Rattle.ps_serve.specs.Did.{Did}
use Rattle.ps_serve.specs.Runs.{Runs, openings_of, served_by}
use Rattle.ps_serve.specs.Numbers.{numbers_report}
use Rattle.ps_serve.proofs.Pairs.{if-compacted}
use Rattle.ps_serve.proofs.Stored.{if-told, leaves-told}
use Rattle.ps_serve.proofs.Told.{did-told, lines-compact-nothing, lines-of-some, lines-serve-nothing, none-some, not-compacted, not-served, numbers-told, same-then, some-command, text-status}
use Rattle.ps_serve.proofs.whole.run.Goals as goal

-- ---- a status is told

pub returns-in-Ended-clause-runs : goal.returns-in-Ended-clause-runs
returns-in-Ended-clause-runs g c =
    let w = g.W.World in
    let ran = c.run_words.new.world in
    let new = c.tell.new.world in
    let only = c.tell.ensures.only in
    if-told (outside w c.args.world.now) (outside w ran) (outside w new) (w.lefts c.args.world.now) (w.lefts ran) (w.lefts new)
    (same-then w ran new only) only.same_stores only.same_lefts g.W.Store.Disk.tells c.in-Ended.status (served_by (command_of c.args.words.now)) c.in-Ended.ensures.runs

pub returns-in-Ended-clause-compacts : goal.returns-in-Ended-clause-compacts
returns-in-Ended-clause-compacts g c =
    let w = g.W.World in
    let ran = c.run_words.new.world in
    let new = c.tell.new.world in
    let only = c.tell.ensures.only in
    if-compacted (outside w c.args.world.now) (outside w ran) (outside w new) (w.lefts c.args.world.now) (w.lefts ran) (w.lefts new)
    (same-then w ran new only) only.same_stores only.same_lefts g.W.Store.Disk.tells c.in-Ended.status (compacted_by (command_of c.args.words.now)) c.in-Ended.ensures.compacts

pub returns-in-Ended-clause-asked : goal.returns-in-Ended-clause-asked
returns-in-Ended-clause-asked g c =
    let w = g.W.World in
    asked-then (openings_of (command_of c.args.words.now)) (w.asked c.args.world.now) (w.asked c.run_words.new.world) (w.asked c.tell.new.world)
    c.in-Ended.ensures.asked c.tell.ensures.only.asked

pub returns-in-Ended-clause-others : goal.returns-in-Ended-clause-others
returns-in-Ended-clause-others g c =
    let w = g.W.World in
    let ran = c.run_words.new.world in
    let new = c.tell.new.world in
    let only = c.tell.ensures.only in
    leaves-told (outside w c.args.world.now) (outside w ran) (outside w new) (w.lefts c.args.world.now) (w.lefts ran) (w.lefts new)
    (same-then w ran new only) only.same_stores only.same_lefts (command_of c.args.words.now) c.in-Ended.ensures.others

pub returns-in-Ended-clause-reported : goal.returns-in-Ended-clause-reported
returns-in-Ended-clause-reported g c =
    let w = g.W.World in
    let old = c.args.world.now in
    let ran = c.run_words.new.world in
    let new = c.tell.new.world in
    let only = c.tell.ensures.only in
    let st = c.in-Ended.status in
    let since : reported_from st (w.faults old) (w.last_opening new) ≤ w.faults ran =
    subst (λ (l : ℕ × ℕ). reported_from st (w.faults old) l ≤ w.faults ran) (sym only.last) c.in-Ended.ensures.since in
    inr (
      Err st,
      did-told (outside w old) (outside w ran) (outside w new) (w.lefts old) (w.lefts ran) (w.lefts new) (same-then w ran new only) only.same_stores only.same_lefts
          g.W.Store.Disk.tells (command_of c.args.words.now) (Err st) c.in-Ended.ensures.came,
      (
        refl,
        report-moved (w.reported old) (w.reported ran) (w.reported new) (report_of st) (reported_from st (w.faults old) (w.last_opening new)) (w.faults ran) (w.faults new)
            c.in-Ended.ensures.reported since c.tell.ensures.reported,
      ),
    )

-- ---- numbers are told

pub returns-in-Rehearsed-clause-usage_only : goal.returns-in-Rehearsed-clause-usage_only
returns-in-Rehearsed-clause-usage_only g c =
    λ e. absurd (text-status (numbers_report c.in-Rehearsed.numbers) _ _ _ _ c.tell_numbers.result Usage c.tell_numbers.ensures.told e)

pub returns-in-Rehearsed-clause-usage : goal.returns-in-Rehearsed-clause-usage
returns-in-Rehearsed-clause-usage g c = λ none. absurd (some-command (command_of c.args.words.now) c.in-Rehearsed.numbers c.in-Rehearsed.ensures.came none)

pub returns-in-Rehearsed-clause-runs : goal.returns-in-Rehearsed-clause-runs
returns-in-Rehearsed-clause-runs g c =
    let w = g.W.World in
    let old = c.args.world.now in
    let new = c.tell_numbers.new.world in
    none-some (served_by (command_of c.args.words.now)) (Runs g.W.Store.Disk.tells (outside w old) (outside w new) (w.lefts old) (w.lefts new) c.tell_numbers.result)
    (not-served (command_of c.args.words.now) c.in-Rehearsed.numbers c.in-Rehearsed.ensures.came)

pub returns-in-Rehearsed-clause-compacts : goal.returns-in-Rehearsed-clause-compacts
returns-in-Rehearsed-clause-compacts g c =
    let w = g.W.World in
    let old = c.args.world.now in
    let new = c.tell_numbers.new.world in
    none-some (compacted_by (command_of c.args.words.now)) (Compacts g.W.Store.Disk.tells (outside w old) (outside w new) (w.lefts old) (w.lefts new) c.tell_numbers.result)
    (not-compacted (command_of c.args.words.now) c.in-Rehearsed.numbers c.in-Rehearsed.ensures.came)

pub returns-in-Rehearsed-clause-open : goal.returns-in-Rehearsed-clause-open
returns-in-Rehearsed-clause-open g c =
    λ e. absurd (text-status (numbers_report c.in-Rehearsed.numbers) _ _ _ _ c.tell_numbers.result OpenFault c.tell_numbers.ensures.told e)

pub returns-in-Rehearsed-clause-asked : goal.returns-in-Rehearsed-clause-asked
returns-in-Rehearsed-clause-asked g c =
    let w = g.W.World in
    asked-then (openings_of (command_of c.args.words.now)) (w.asked c.args.world.now) (w.asked c.run_words.new.world) (w.asked c.tell_numbers.new.world)
    c.in-Rehearsed.ensures.asked c.tell_numbers.ensures.only.asked

pub returns-in-Rehearsed-clause-others : goal.returns-in-Rehearsed-clause-others
returns-in-Rehearsed-clause-others g c =
    let w = g.W.World in
    let ran = c.run_words.new.world in
    let new = c.tell_numbers.new.world in
    let only = c.tell_numbers.ensures.only in
    leaves-told (outside w c.args.world.now) (outside w ran) (outside w new) (w.lefts c.args.world.now) (w.lefts ran) (w.lefts new)
    (same-then w ran new only) only.same_stores only.same_lefts (command_of c.args.words.now) c.in-Rehearsed.ensures.others

pub returns-in-Rehearsed-clause-reported : goal.returns-in-Rehearsed-clause-reported
returns-in-Rehearsed-clause-reported g c =
    let w = g.W.World in
    let old = c.args.world.now in
    let ran = c.run_words.new.world in
    let new = c.tell_numbers.new.world in
    numbers-told _ (command_of c.args.words.now) c.in-Rehearsed.numbers c.in-Rehearsed.ensures.came (w.reported old) (w.reported ran) (w.reported new) (w.faults old)
    (w.faults ran) (w.faults new) (w.last_opening new) c.tell_numbers.result c.in-Rehearsed.ensures.reported c.in-Rehearsed.ensures.since c.tell_numbers.ensures.told

-- ---- lines are told

pub returns-in-Lines-clause-usage_only : goal.returns-in-Lines-clause-usage_only
returns-in-Lines-clause-usage_only g c =
    λ e. absurd (text-status _ _ _ _ _ c.tell_lines.result Usage c.tell_lines.ensures.told e)

pub returns-in-Lines-clause-usage : goal.returns-in-Lines-clause-usage
returns-in-Lines-clause-usage g c =
    let w = g.W.World in
    let old = c.args.world.now in
    let ran = c.run_words.new.world in
    λ none. absurd (lines-of-some g.W.Store.Disk.tells (outside w old) (outside w ran) (w.lefts old) (w.lefts ran) c.in-Lines.lines (command_of c.args.words.now) c.in-Lines.ensures.came none)

pub returns-in-Lines-clause-runs : goal.returns-in-Lines-clause-runs
returns-in-Lines-clause-runs g c =
    let w = g.W.World in
    let old = c.args.world.now in
    let ran = c.run_words.new.world in
    let new = c.tell_lines.new.world in
    none-some (served_by (command_of c.args.words.now)) (Runs g.W.Store.Disk.tells (outside w old) (outside w new) (w.lefts old) (w.lefts new) c.tell_lines.result)
    (lines-serve-nothing g.W.Store.Disk.tells (outside w old) (outside w ran) (w.lefts old) (w.lefts ran) c.in-Lines.lines (command_of c.args.words.now) c.in-Lines.ensures.came)

pub returns-in-Lines-clause-compacts : goal.returns-in-Lines-clause-compacts
returns-in-Lines-clause-compacts g c =
    let w = g.W.World in
    let old = c.args.world.now in
    let ran = c.run_words.new.world in
    let new = c.tell_lines.new.world in
    none-some (compacted_by (command_of c.args.words.now)) (Compacts g.W.Store.Disk.tells (outside w old) (outside w new) (w.lefts old) (w.lefts new) c.tell_lines.result)
    (lines-compact-nothing g.W.Store.Disk.tells (outside w old) (outside w ran) (w.lefts old) (w.lefts ran) c.in-Lines.lines (command_of c.args.words.now) c.in-Lines.ensures.came)

pub returns-in-Lines-clause-open : goal.returns-in-Lines-clause-open
returns-in-Lines-clause-open g c =
    λ e. absurd (text-status _ _ _ _ _ c.tell_lines.result OpenFault c.tell_lines.ensures.told e)

pub returns-in-Lines-clause-asked : goal.returns-in-Lines-clause-asked
returns-in-Lines-clause-asked g c =
    let w = g.W.World in
    asked-then (openings_of (command_of c.args.words.now)) (w.asked c.args.world.now) (w.asked c.run_words.new.world) (w.asked c.tell_lines.new.world)
    c.in-Lines.ensures.asked c.tell_lines.ensures.only.asked

pub returns-in-Lines-clause-others : goal.returns-in-Lines-clause-others
returns-in-Lines-clause-others g c =
    let w = g.W.World in
    let ran = c.run_words.new.world in
    let new = c.tell_lines.new.world in
    let only = c.tell_lines.ensures.only in
    leaves-told (outside w c.args.world.now) (outside w ran) (outside w new) (w.lefts c.args.world.now) (w.lefts ran) (w.lefts new)
    (same-then w ran new only) only.same_stores only.same_lefts (command_of c.args.words.now) c.in-Lines.ensures.others

pub returns-in-Lines-clause-reported : goal.returns-in-Lines-clause-reported
returns-in-Lines-clause-reported g c =
    let w = g.W.World in
    let old = c.args.world.now in
    let ran = c.run_words.new.world in
    let new = c.tell_lines.new.world in
    let only = c.tell_lines.ensures.only in
    let lines = c.in-Lines.lines in
    let told = subst (λ (ls : List (List ℕ)). TellsText (text_of ls) (w.reported ran) (w.reported new) (w.faults ran) (w.faults new) c.tell_lines.result) c.as_slice.ensures c.tell_lines.ensures.told
    in
    let since : (w.last_opening new).1 ≤ w.faults ran = subst (λ (l : ℕ × ℕ). l.1 ≤ w.faults ran) (sym only.last) c.in-Lines.ensures.since in
    inr (
      Ok lines,
      did-told (outside w old) (outside w ran) (outside w new) (w.lefts old) (w.lefts ran) (w.lefts new) (same-then w ran new only) only.same_stores only.same_lefts
          g.W.Store.Disk.tells (command_of c.args.words.now) (Ok lines) c.in-Lines.ensures.came,
      text-moved (text_of lines) (w.reported old) (w.reported ran) (w.reported new) (w.last_opening new).1 (w.faults ran) (w.faults new) c.tell_lines.result
          c.in-Lines.ensures.reported since told,
    )
