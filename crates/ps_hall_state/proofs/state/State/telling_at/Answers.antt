use Rattle.std.proofs.Common.{◌≡◌, subst, Option}
use Rattle.std.specs.Prelude.{IfNone, IfOk, IfSome}
use Rattle.ps_hall_state.specs.declared.next.Telling.{Telling}
use Rattle.ps_hall_state.specs.declared.state.HostRow.{HostRow}
use Rattle.ps_hall_state.specs.Next.{Shows, ShowsNone}
use Rattle.ps_hall_state.proofs.OneRow.{row_is}
use Rattle.ps_hall_state.proofs.state.State.telling_at.Goals as goal

pub returns : goal.returns
returns c =
    let v = c.args.self.now in
    let told = c.telling_for.result in
    let x = c.index-row.result.now in
    record {
      some = λ row was. (
          let same : x ≡ row = row_is v.rows.items c.args.at x row c.requires.here c.index-row.ensures was in
          subst (λ (r : HostRow). IfOk told (λ (o : Option Telling). IfSome o (λ (t : Telling). Shows v r t.to t.line))) same c.telling_for.ensures.some);
      held = c.telling_for.ensures.held;
      none = λ row was. (
          let same : x ≡ row = row_is v.rows.items c.args.at x row c.requires.here c.index-row.ensures was in
          subst (λ (r : HostRow). IfOk told (λ (o : Option Telling). IfNone o (ShowsNone v r))) same c.telling_for.ensures.none);
    }
