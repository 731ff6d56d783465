use Rattle.std.proofs.Common.{◌∙◌, inl, inr, refl, sym}
use Rattle.ps_audit_run.specs.Report.{readers_report}
use Rattle.ps_status.proofs.Asking.{asked-first}
use Rattle.ps_status.proofs.Counts.{opened-then, refused-never, told-then}
use Rattle.ps_status.proofs.Moved.{lefts-trans}
use Rattle.ps_audit_command.proofs.Audits.{audited-held, never-open, never-usage}
use Rattle.ps_audit_command.proofs.auditing.list_readers.Goals as goal

pub returns-in-Err-clause-lists : goal.returns-in-Err-clause-lists
returns-in-Err-clause-lists g c =
    let e = c.in-Err.ensures in
    inl (
      c.refused.result,
      refl,
      record {
        same = record { same_sources = e.sources; same_sinks = e.sinks; same_clocks = e.clocks };
        stores = e.refused_stores;
        lefts_same = e.refused_lefts;
        status = c.refused.ensures.only;
      },
    )

pub returns-in-Err-clause-asked : goal.returns-in-Err-clause-asked
returns-in-Err-clause-asked g c = asked-first _ _ _ _ c.in-Err.why c.in-Err.ensures.asked

pub returns-in-Err-clause-others : goal.returns-in-Err-clause-others
returns-in-Err-clause-others g c =
    let e = c.in-Err.ensures in
    record {
      other_sources = λ n other. e.sources n;
      other_sinks = λ n other. e.sinks n;
      other_stores = λ n other. e.refused_stores n;
      other_lefts = λ n other. e.refused_lefts n;
      all_clocks = e.clocks;
    }

pub returns-clause-lists : goal.returns-clause-lists
returns-clause-lists g c =
    inr (record {
      outcome = c.run_readers-disk.result.report;
      is = c.came_of.ensures;
      audited = audited-held g.W.Store.Disk (readers_report c.args.words.now.node) c.run_readers-disk.result.report c.in-Ok.disk c.run_readers-disk.result.disk _ _ _
          c.in-Ok.ensures.object c.give_back_disk.ensures.held c.give_back_disk.ensures.left c.run_readers-disk.ensures;
    })

pub returns-clause-asked : goal.returns-clause-asked
returns-clause-asked g c = (1, c.give_back_disk.ensures.asked ∙ c.in-Ok.ensures.asked)

pub returns-clause-others : goal.returns-clause-others
returns-clause-others g c =
    let opened = c.in-Ok.ensures in
    let given = c.give_back_disk.ensures in
    record {
      other_sources = λ n other. given.sources n ∙ opened.sources n;
      other_sinks = λ n other. given.sinks n ∙ opened.sinks n;
      other_stores = λ n other. given.stores n other.0 ∙ opened.stores n other.0;
      other_lefts = λ n other. lefts-trans _ _ _ (opened.lefts n other.0) (given.lefts n other.0);
      all_clocks = λ n. given.clocks n ∙ opened.clocks n;
    }

pub returns-in-Err-clause-never : goal.returns-in-Err-clause-never
returns-in-Err-clause-never g c = λ e. refused-never c.refused.result c.refused.ensures.only (cc e)

pub returns-clause-never : goal.returns-clause-never
returns-clause-never g c = λ e. never-usage _ (sym c.came_of.ensures ∙ e)

pub returns-clause-open : goal.returns-clause-open
returns-clause-open g c = λ e. absurd (never-open _ (sym c.came_of.ensures ∙ e))

pub returns-clause-since : goal.returns-clause-since
returns-clause-since g c =
    let w = g.W.World in
    let opened = c.in-Ok.ensures in
    let given = c.give_back_disk.ensures in
    let counts = opened-then (w.faults c.args.world.now) _ (w.faults c.give_back_disk.new.self) (w.last_opening c.give_back_disk.new.self) _ opened.cause.later opened.last given.last given.faults in
    told-then c.came_of.result (w.faults c.args.world.now) (w.last_opening c.give_back_disk.new.self) (w.faults c.give_back_disk.new.self) counts.0 counts.1
