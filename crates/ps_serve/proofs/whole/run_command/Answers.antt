use Rattle.std.proofs.Common.{◌≡◌, ◌≤◌, ℕ, List, ap, subst, sym, ◌∙◌, arith}
use Rattle.std.specs.Prelude.{Some, Result}
use Rattle.ps_commands.specs.declared.command.Command.{Command}
use Rattle.ps_commands.specs.declared.command.Command.TheVariants.{Explain, Readers, Mirror}
use Rattle.ps_status.specs.Outside.{outside}
use Rattle.ps_status.specs.Telling.{told_from}
use Rattle.ps_status.specs.declared.status.Status.{Status}
use Rattle.ps_status.specs.declared.status.Status.TheVariants.{Done, OpenFault, Usage}
use Rattle.ps_serve.specs.Came.{IsCame, outcome_in, status_in}
use Rattle.ps_serve.specs.declared.whole.Came.{Came}
use Rattle.ps_serve.proofs.Told.{came-of, outcome-of, rehearsed-came, rehearsed-since, rehearsed-status, status-of}
use Rattle.ps_serve.proofs.whole.run_command.Goals as goal

-- ---- a rehearsal

pub returns-in-Rehearse-clause-usage : goal.returns-in-Rehearse-clause-usage
returns-in-Rehearse-clause-usage g c = rehearsed-status c.in-Rehearse.seed c.in-Rehearse.count c.rehearsed.result Usage c.rehearsed.ensures (λ e. cc e) (λ e. cc e)

pub returns-in-Rehearse-clause-came : goal.returns-in-Rehearse-clause-came
returns-in-Rehearse-clause-came g c =
    let w = g.W.World in
    let old = c.args.world.now in
    subst (λ (k : Command). IsCame g.W.Store.Disk.tells (Some k) (outside w old) (outside w old) (w.lefts old) (w.lefts old) c.rehearsed.result) (sym c.in-Rehearse.is)
    (rehearsed-came g.W.Store.Disk.tells c.in-Rehearse.seed c.in-Rehearse.count (outside w old) (outside w old) (w.lefts old) (w.lefts old) c.rehearsed.result c.rehearsed.ensures)

pub returns-in-Rehearse-clause-open : goal.returns-in-Rehearse-clause-open
returns-in-Rehearse-clause-open g c =
    λ e. absurd (rehearsed-status c.in-Rehearse.seed c.in-Rehearse.count c.rehearsed.result OpenFault c.rehearsed.ensures (λ z. cc z) (λ z. cc z) e)

pub returns-in-Rehearse-clause-since : goal.returns-in-Rehearse-clause-since
returns-in-Rehearse-clause-since g c =
    let w = g.W.World in
    let old = c.args.world.now in
    let same = rehearsed-since c.in-Rehearse.seed c.in-Rehearse.count c.rehearsed.result (w.faults old) (w.last_opening old) c.rehearsed.ensures in
    subst (λ (n : ℕ). n ≤ w.faults old) (sym same) (omega arith)

-- ---- Explain

pub returns-in-Explain-clause-usage : goal.returns-in-Explain-clause-usage
returns-in-Explain-clause-usage g c =
    λ e. c.explain_store.ensures.never (status-of c.explain_store.result Usage (λ z. cc z) (ap status_in (sym c.came_of.ensures) ∙ e))

pub returns-in-Explain-clause-came : goal.returns-in-Explain-clause-came
returns-in-Explain-clause-came g c =
    let w = g.W.World in
    let old = c.args.world.now in
    let new = c.explain_store.new.world in
    subst (λ (k : Command). IsCame g.W.Store.Disk.tells (Some k) (outside w old) (outside w new) (w.lefts old) (w.lefts new) c.came_of.result) (sym c.in-Explain.is)
    (subst (IsCame g.W.Store.Disk.tells (Some (Explain c.in-Explain.words)) (outside w old) (outside w new) (w.lefts old) (w.lefts new)) (sym c.came_of.ensures)
    (came-of g.W.Store.Disk.tells (Some (Explain c.in-Explain.words)) (outside w old) (outside w new) (w.lefts old) (w.lefts new) c.explain_store.result c.explain_store.ensures.explains))

pub returns-in-Explain-clause-open : goal.returns-in-Explain-clause-open
returns-in-Explain-clause-open g c =
    λ e. c.explain_store.ensures.open (status-of c.explain_store.result OpenFault (λ z. cc z) (ap status_in (sym c.came_of.ensures) ∙ e))

pub returns-in-Explain-clause-since : goal.returns-in-Explain-clause-since
returns-in-Explain-clause-since g c =
    let w = g.W.World in
    let old = c.args.world.now in
    let new = c.explain_store.new.world in
    subst (λ (r : Result (List (List ℕ)) Status). told_from r (w.faults old) (w.last_opening new) ≤ w.faults new)
    (sym (ap outcome_in c.came_of.ensures ∙ outcome-of c.explain_store.result)) c.explain_store.ensures.since

-- ---- Readers

pub returns-in-Readers-clause-usage : goal.returns-in-Readers-clause-usage
returns-in-Readers-clause-usage g c =
    λ e. c.list_readers.ensures.never (status-of c.list_readers.result Usage (λ z. cc z) (ap status_in (sym c.came_of-in-Readers.ensures) ∙ e))

pub returns-in-Readers-clause-came : goal.returns-in-Readers-clause-came
returns-in-Readers-clause-came g c =
    let w = g.W.World in
    let old = c.args.world.now in
    let new = c.list_readers.new.world in
    subst (λ (k : Command). IsCame g.W.Store.Disk.tells (Some k) (outside w old) (outside w new) (w.lefts old) (w.lefts new) c.came_of-in-Readers.result) (sym c.in-Readers.is)
    (subst (IsCame g.W.Store.Disk.tells (Some (Readers c.in-Readers.words)) (outside w old) (outside w new) (w.lefts old) (w.lefts new)) (sym c.came_of-in-Readers.ensures)
    (came-of g.W.Store.Disk.tells (Some (Readers c.in-Readers.words)) (outside w old) (outside w new) (w.lefts old) (w.lefts new) c.list_readers.result c.list_readers.ensures.lists))

pub returns-in-Readers-clause-open : goal.returns-in-Readers-clause-open
returns-in-Readers-clause-open g c =
    λ e. c.list_readers.ensures.open (status-of c.list_readers.result OpenFault (λ z. cc z) (ap status_in (sym c.came_of-in-Readers.ensures) ∙ e))

pub returns-in-Readers-clause-since : goal.returns-in-Readers-clause-since
returns-in-Readers-clause-since g c =
    let w = g.W.World in
    let old = c.args.world.now in
    let new = c.list_readers.new.world in
    subst (λ (r : Result (List (List ℕ)) Status). told_from r (w.faults old) (w.last_opening new) ≤ w.faults new)
    (sym (ap outcome_in c.came_of-in-Readers.ensures ∙ outcome-of c.list_readers.result)) c.list_readers.ensures.since

-- ---- Mirror

pub returns-in-Mirror-clause-usage : goal.returns-in-Mirror-clause-usage
returns-in-Mirror-clause-usage g c =
    λ e. c.mirror_source.ensures.never (status-of c.mirror_source.result Usage (λ z. cc z) (ap status_in (sym c.came_of-in-Mirror.ensures) ∙ e))

pub returns-in-Mirror-clause-came : goal.returns-in-Mirror-clause-came
returns-in-Mirror-clause-came g c =
    let w = g.W.World in
    let old = c.args.world.now in
    let new = c.mirror_source.new.world in
    subst (λ (k : Command). IsCame g.W.Store.Disk.tells (Some k) (outside w old) (outside w new) (w.lefts old) (w.lefts new) c.came_of-in-Mirror.result) (sym c.in-Mirror.is)
    (subst (IsCame g.W.Store.Disk.tells (Some (Mirror c.in-Mirror.words)) (outside w old) (outside w new) (w.lefts old) (w.lefts new)) (sym c.came_of-in-Mirror.ensures)
    (came-of g.W.Store.Disk.tells (Some (Mirror c.in-Mirror.words)) (outside w old) (outside w new) (w.lefts old) (w.lefts new) c.mirror_source.result c.mirror_source.ensures.mirrors))

pub returns-in-Mirror-clause-open : goal.returns-in-Mirror-clause-open
returns-in-Mirror-clause-open g c =
    λ e. c.mirror_source.ensures.open (status-of c.mirror_source.result OpenFault (λ z. cc z) (ap status_in (sym c.came_of-in-Mirror.ensures) ∙ e))

pub returns-in-Mirror-clause-since : goal.returns-in-Mirror-clause-since
returns-in-Mirror-clause-since g c =
    let w = g.W.World in
    let old = c.args.world.now in
    let new = c.mirror_source.new.world in
    subst (λ (r : Result (List (List ℕ)) Status). told_from r (w.faults old) (w.last_opening new) ≤ w.faults new)
    (sym (ap outcome_in c.came_of-in-Mirror.ensures ∙ outcome-of c.mirror_source.result)) c.mirror_source.ensures.since
