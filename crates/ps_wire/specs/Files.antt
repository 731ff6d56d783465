-- How often a source or a sink over a file has failed.
use Rattle.std.specs.Prelude.{ℕ}
use Rattle.ps_wire.specs.declared.files.FileSource.{FileSource}
use Rattle.ps_wire.specs.declared.files.FileSink.{FileSink}

abbrev pub source_faults : {F : Type 0} → FileSource F → ℕ
source_faults s = s.faults

abbrev pub sink_faults : {F : Type 0} → FileSink F → ℕ
sink_faults s = s.faults
