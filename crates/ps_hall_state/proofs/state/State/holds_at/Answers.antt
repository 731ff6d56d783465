use Rattle.std.proofs.Common.{◌≡◌, subst}
use Rattle.std.specs.List.{list_any}
use Rattle.ps_outbox.specs.Boxes.{is_of}
use Rattle.ps_hall_state.specs.declared.state.HostRow.{HostRow}
use Rattle.ps_hall_state.proofs.OneRow.{row_is}
use Rattle.ps_hall_state.proofs.state.State.holds_at.Goals as goal

pub returns : goal.returns
returns c = λ row was.
    let v = c.args.self.now in
    subst (λ (r : HostRow). c.holds.result ≡ list_any (is_of r.host) v.queues.held) (row_is v.rows.items c.args.at c.index-row.result.now row c.requires.here c.index-row.ensures was) c.holds.ensures
