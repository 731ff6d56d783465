use Rattle.std.proofs.Common.{◌≡◌, ◌<◌, List, true, sym, subst}
use Rattle.std.specs.Prelude.{◌^◌}
use Rattle.ps_types.specs.declared.rows.TallyRow.{TallyRow}
use Rattle.ps_model.specs.Replay.{accepted}
use Rattle.ps_core.specs.Counted.{AreFewMade}
use Rattle.ps_core.specs.Requests.{IsRequestOf}
use Rattle.ps_core.specs.States.{Part, fits_book, part_of, state_of}
use Rattle.ps_core.proofs.Staged.{follows-now}
use Rattle.ps_core.proofs.Taken.{accepted_fits}
use Rattle.ps_core.proofs.service.Service.prepare_own.Goals as goal

pub take_known-requires-clause-accepted : goal.take_known-requires-clause-accepted
take_known-requires-clause-accepted g c =
    let s = state_of c.self.inside.front c.self.inside.tallies.rows in
    let ok : accepted s c.args.entry ≡ true = rw (← c.self.view_is) at c.requires.accepted in
    subst (λ (p : Part). fits_book p.book c.args.entry ≡ true) (sym c.in_ok-bring_up.ensures.even) (accepted_fits s c.args.entry ok)

pub take_known-requires-clause-request : goal.take_known-requires-clause-request
take_known-requires-clause-request g c =
    let here = rw (← c.self.view_is) at c.requires.request in
    subst (λ (p : Part). IsRequestOf p.book.service c.args.entry c.args.request) (sym c.in_ok-bring_up.ensures.even) here

pub told_and_counted-requires-clause-follows : goal.told_and_counted-requires-clause-follows
told_and_counted-requires-clause-follows g c κs within =
    let inside = c.self.inside in
    let s = state_of inside.front inside.tallies.rows in
    let ok : accepted s c.args.entry ≡ true = rw (← c.self.view_is) at c.requires.accepted in
    let few : inside.front.count < 2 ^ 62 = rw (← c.self.view_is) at c.requires.few in
    let here = rw (← c.self.view_is) at c.requires.request in
    let known : IsRequestOf (part_of c.bring_up.new.back).book.service c.args.entry c.args.request =
    subst (λ (p : Part). IsRequestOf p.book.service c.args.entry c.args.request) (sym c.in_ok-bring_up.ensures.even) here in
    follows-now (part_of inside.front) (part_of c.bring_up.new.back) (part_of c.take_known.new.self) (record { entry = c.args.entry; request = c.args.request })
    c.in_ok-bring_up.ensures.even (accepted_fits s c.args.entry ok) few c.requires.timely c.self.invariant.0.holds known c.in_ok-take_known.ensures.state

pub invariant_of-self-2 : goal.invariant_of-self-2
invariant_of-self-2 g c =
    let rows = subst (λ (rows : List TallyRow). AreFewMade c.self.inside.front.count rows) (sym c.told_and_counted.ensures.rows) c.self.invariant.0.few in
    rw (c.put_stage.ensures.stage) (
      record { holds = c.self.invariant.0.holds; few = rows; staged = c.in_ok-notices.ensures.staged },
      (c.self.invariant.1.0, c.in_ok-take_known.ensures.wants),
    )
