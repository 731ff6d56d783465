use Rattle.std.proofs.Common.{◌≤◌, ◌∷◌, List, ℕ, subst, arith}
use Rattle.std.specs.Io.KnownBytes.{Appends}
use Rattle.ps_io.specs.World.{ReportsFront}
use Rattle.ps_status.specs.Telling.{OnlyTells}
use Rattle.ps_status.proofs.Fronts.{SoFar, all-told, empty-list, front-whole, if-err, none-so-far, one-more, only-none, only-then, rose-then, some-told}
use Rattle.ps_status.proofs.telling.report_lines.Goals as goal

pub loop-line-init : goal.loop-line-init
loop-line-init g c = (none-so-far c.args.lines.now (g.W.World.reported c.args.world.now), only-none g.W.World c.args.world.now, omega arith)

pub loop-line-preserved : goal.loop-line-preserved
loop-line-preserved g c =
    let w = g.W.World in
    let so = c.loop-line.invariant in
    let e = c.in_ok-report.ensures in
    let behind = subst (λ (r : List (List ℕ)). SoFar c.args.lines.now r (w.reported c.args.world.now) (w.reported c.loop-line.world)) c.in-Some.ensures.cases.0 so.0 in
    let adds = subst (λ (x : List ℕ). Appends (w.reported c.loop-line.world) (w.reported c.report.new.self) x) c.as_slice.ensures e.reported in
    let only : OnlyTells w c.loop-line.world c.report.new.self = record {
      same_sources = e.sources;
      same_sinks = e.sinks;
      same_stores = e.stores;
      same_lefts = e.lefts;
      same_clocks = e.clocks;
      asked = e.asked;
      last = e.last;
    } in (
      one-more c.args.lines.now c.in-Some.line.now c.in-Some.others.now _ _ _ behind adds,
      only-then w c.args.world.now c.loop-line.world c.report.new.self so.1 only,
      (let was = so.2 in let is = e.cause.later in omega (arith, was, is)),
    )

pub returns-clause-whole : goal.returns-clause-whole
returns-clause-whole g c = all-told c.args.lines.now c.loop-line.rest.now _ _ (empty-list c.loop-line.rest.now c.in_default.ensures.cases) c.loop-line.invariant.0

pub returns-clause-part : goal.returns-clause-part
returns-clause-part g c =
    front-whole _ _ _ (all-told c.args.lines.now c.loop-line.rest.now _ _ (empty-list c.loop-line.rest.now c.in_default.ensures.cases) c.loop-line.invariant.0)

pub returns-in_err-report-clause-part : goal.returns-in_err-report-clause-part
returns-in_err-report-clause-part g c =
    let w = g.W.World in
    let behind = subst (λ (r : List (List ℕ)). SoFar c.args.lines.now r (w.reported c.args.world.now) (w.reported c.loop-line.world)) c.in-Some.ensures.cases.0 c.loop-line.invariant.0 in
    let part = subst (λ (x : List ℕ). ReportsFront (w.reported c.loop-line.world) (w.reported c.report.new.self) x) c.as_slice.ensures c.in_err-report.ensures.reported in
    some-told c.args.lines.now c.in-Some.line.now c.in-Some.others.now _ _ _ behind part

pub returns-in_err-report-clause-only : goal.returns-in_err-report-clause-only
returns-in_err-report-clause-only g c =
    let e = c.in_err-report.ensures in
    only-then g.W.World c.args.world.now c.loop-line.world c.report.new.self c.loop-line.invariant.1 (record {
      same_sources = e.sources;
      same_sinks = e.sinks;
      same_stores = e.stores;
      same_lefts = e.lefts;
      same_clocks = e.clocks;
      asked = e.asked;
      last = e.last;
    })

pub returns-in_err-report-clause-cause : goal.returns-in_err-report-clause-cause
returns-in_err-report-clause-cause g c =
    let was = c.loop-line.invariant.2 in
    let e = c.in_err-report.ensures.cause in
    let is = e.later in
    record { later = omega (arith, was, is); failed = if-err c.from_residual.result (rose-then _ _ _ was e.failed) }
