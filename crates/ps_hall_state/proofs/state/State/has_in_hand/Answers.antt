use Rattle.std.proofs.Common.{◌≡◌, ◌∙◌, ap}
use Rattle.ps_hall_state.specs.declared.state.HostRow.{HostRow}
use Rattle.ps_hall_state.proofs.OneRow.{row_is}
use Rattle.ps_hall_state.proofs.state.State.has_in_hand.Goals as goal

pub returns : goal.returns
returns c = record {
  yes = λ row was t. (
      let same : c.index-row.result.now ≡ row = row_is c.args.self.now.rows.items c.args.at c.index-row.result.now row c.requires.here c.index-row.ensures was in
      record { bare = c.is_held_for.ensures.bare t; here = c.is_held_for.ensures.here t ∙ ap (λ (r : HostRow). r.host) same; held = c.is_held_for.ensures.held t });
}
