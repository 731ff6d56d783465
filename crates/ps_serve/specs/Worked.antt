-- What became of a stream's objects.
use Rattle.std.specs.Prelude.{◌≡◌}
use Rattle.ps_args.specs.declared.command.Stream.{Stream}
use Rattle.ps_workers.specs.Headline.{Worked}
use Rattle.ps_status.specs.Outside.{Outside}

-- as the world held them before and holds them now
pub record IsWorkedIn (old new : Outside) (s : Stream) (t : Worked) : Type 0 where
  pub source : t.source ≡ old.sources s.source
  pub source_now : t.source_now ≡ new.sources s.source
  pub clock : t.clock ≡ old.clocks s.host
  pub clock_now : t.clock_now ≡ new.clocks s.host
  pub sink : t.sink ≡ old.sinks s.sink
  pub sink_now : t.sink_now ≡ new.sinks s.sink
