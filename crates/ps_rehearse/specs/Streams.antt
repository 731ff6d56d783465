-- The two streams of a rehearsal, before and after their run.
use Rattle.std.specs.Prelude.{◌≡◌, ℕ, ◌+◌, ◌∷◌, [], Bool, List}
use Rattle.ps_types.specs.Lines.{whole_lines}
use Rattle.ps_types.specs.Tree.{Tree}
use Rattle.ps_endpoints.specs.declared.port.Port.{Port}
use Rattle.ps_workers.specs.EndCause.TheVariants.{Finished}
use Rattle.ps_workers.specs.ReadEnd.TheVariants.{Ended as ReadAll}
use Rattle.ps_wire.specs.Reading.{IsFresh, source_of}
use Rattle.ps_wire.specs.declared.lines.Lines.{Lines}
use Rattle.ps_wire.specs.declared.memory.MemSink.{MemSink}
use Rattle.ps_wire.specs.declared.memory.MemSource.{MemSource}
use Rattle.ps_wire.specs.declared.streams.Source.{Ghosts as SourceGhosts}
use Rattle.ps_workers.specs.declared.serving.Ended.{Ended}
use Rattle.ps_rehearse_lines.specs.Counted.{how_many, is_error, is_notice, is_result}
use Rattle.ps_rehearse_lines.specs.declared.counting.Counts.{Counts}
use Rattle.ps_rehearse.specs.declared.clock.StillClock.{StillClock}

-- ---- before

module _ {s : SourceGhosts MemSource} where
  -- it reads these bytes, and nothing was done with it
  pub record IsPort (bytes : List ℕ) (port : Port (Lines MemSource s) StillClock MemSink) : Type 0 where
    pub fresh : IsFresh port.lines
    pub source : (source_of port.lines).left ≡ bytes
    pub clock : port.clock.asked ≡ 0
    pub sink : port.sink.written ≡ []

  pub record ArePorts (first second : List ℕ) (ports : List (Port (Lines MemSource s) StillClock MemSink)) : Type 0 where
    pub one : Port (Lines MemSource s) StillClock MemSink
    pub two : Port (Lines MemSource s) StillClock MemSink
    pub are : ports ≡ one ∷ two ∷ []
    pub one_is : IsPort first one
    pub two_is : IsPort second two

-- ---- after

module _ {L C : Type 0} where
  -- its reader read all, and its writer found that all is said
  pub record IsDone (e : Ended L C MemSink) : Type 0 where
    pub read : e.read ≡ ReadAll
    pub wrote : e.wrote ≡ Finished

  -- so many of the lines of both pass
  abbrev pub in_both : (Tree → Bool) → Ended L C MemSink → Ended L C MemSink → ℕ
  in_both test one two = how_many test (whole_lines one.port.sink.written) + how_many test (whole_lines two.port.sink.written)

  -- there are two, both are done, and these are the numbers of the lines of both
  pub record AreDone (ended : List (Ended L C MemSink)) (c : Counts) : Type 0 where
    pub one : Ended L C MemSink
    pub two : Ended L C MemSink
    pub are : ended ≡ one ∷ two ∷ []
    pub one_done : IsDone one
    pub two_done : IsDone two
    pub results : c.results ≡ in_both is_result one two
    pub errors : c.errors ≡ in_both is_error one two
    pub notices : c.notices ≡ in_both is_notice one two
