use Rattle.std.proofs.Common.{◌≡◌, true}
use Rattle.ps_model.specs.Replay.{accepted}
use Rattle.ps_core.specs.States.{state_of}
use Rattle.ps_core.proofs.Taken.{accepted_fits}
use Rattle.ps_core.proofs.service.Service.request_for.Goals as goal

pub request_for-requires : goal.request_for-requires
request_for-requires c =
    let s = state_of c.self.inside.front c.self.inside.tallies.rows in
    let ok : accepted s c.args.entry.now ≡ true = rw (← c.self.view_is) at c.requires.accepted in
    record { accepted = accepted_fits s c.args.entry.now ok }
