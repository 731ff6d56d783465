use Rattle.ps_presence.proofs.Keys.{on_host}
use Rattle.ps_presence.proofs.presence.Presence.clear_host.Goals as goal

pub take_away-requires : goal.take_away-requires
take_away-requires c = record { asks = on_host c.args.host.now }
