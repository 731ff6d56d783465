use Rattle.std.proofs.Common.{◌∙◌, inl, inr, refl, sym}
use Rattle.ps_status.proofs.Asking.{asked-first}
use Rattle.ps_status.proofs.Counts.{opened-then, refused-never, told-then}
use Rattle.ps_status.proofs.Moved.{lefts-trans}
use Rattle.ps_mirror_command.proofs.Mirrored.{never-open, never-usage, ran-held}
use Rattle.ps_mirror_command.proofs.mirroring.mirror_source.Goals as goal

pub returns-in-Err-clause-mirrors : goal.returns-in-Err-clause-mirrors
returns-in-Err-clause-mirrors g c =
    let e = c.in-Err.ensures in
    inl (
      c.refused.result,
      refl,
      record {
        same = record { same_sources = e.refused_sources; same_sinks = e.sinks; same_clocks = e.clocks };
        stores = e.stores;
        lefts_same = e.lefts;
        status = c.refused.ensures.only;
      },
    )

pub returns-in-Err-clause-asked : goal.returns-in-Err-clause-asked
returns-in-Err-clause-asked g c = asked-first _ _ _ _ c.in-Err.why c.in-Err.ensures.asked

pub returns-in-Err-clause-others : goal.returns-in-Err-clause-others
returns-in-Err-clause-others g c =
    let e = c.in-Err.ensures in
    record {
      other_sources = λ n other. e.refused_sources n;
      other_sinks = λ n other. e.sinks n;
      other_stores = λ n other. e.stores n;
      other_lefts = λ n other. e.lefts n;
      all_clocks = e.clocks;
    }

pub returns-clause-mirrors : goal.returns-clause-mirrors
returns-clause-mirrors g c =
    let w = c.args.words.now in
    inr (record {
      outcome = c.run_mirror-source.result.report;
      is = c.came_of.ensures;
      ran = ran-held w.node w.who w.most _ _ _ _ _ _ _ c.in-Ok.ensures.object c.give_back.ensures.held c.run_mirror-source.ensures.ran;
    })

pub returns-clause-asked : goal.returns-clause-asked
returns-clause-asked g c = (1, c.give_back.ensures.asked ∙ c.in-Ok.ensures.asked)

pub returns-clause-others : goal.returns-clause-others
returns-clause-others g c =
    let opened = c.in-Ok.ensures in
    let given = c.give_back.ensures in
    record {
      other_sources = λ n other. given.sources n other.0 ∙ opened.sources n other.0;
      other_sinks = λ n other. given.sinks n ∙ opened.sinks n;
      other_stores = λ n other. given.stores n ∙ opened.stores n;
      other_lefts = λ n other. lefts-trans _ _ _ (opened.lefts n) (given.lefts n);
      all_clocks = λ n. given.clocks n ∙ opened.clocks n;
    }

pub returns-in-Err-clause-never : goal.returns-in-Err-clause-never
returns-in-Err-clause-never g c = λ e. refused-never c.refused.result c.refused.ensures.only (cc e)

pub returns-clause-never : goal.returns-clause-never
returns-clause-never g c = λ e. never-usage _ (sym c.came_of.ensures ∙ e)

pub returns-clause-open : goal.returns-clause-open
returns-clause-open g c = λ e. absurd (never-open _ (sym c.came_of.ensures ∙ e))

pub returns-clause-since : goal.returns-clause-since
returns-clause-since g c =
    let w = g.W.World in
    let opened = c.in-Ok.ensures in
    let given = c.give_back.ensures in
    let counts = opened-then (w.faults c.args.world.now) _ (w.faults c.give_back.new.self) (w.last_opening c.give_back.new.self) _ opened.cause.later opened.last given.last given.faults in
    told-then c.came_of.result (w.faults c.args.world.now) (w.last_opening c.give_back.new.self) (w.faults c.give_back.new.self) counts.0 counts.1
