-- How the writing of a new store ends where it isn't opened, and how compaction then ends.
use Rattle.std.specs.Prelude.{Result, Ok, Err}
use Rattle.ps_journal.specs.declared.journal.AppendRefusal.{AppendRefusal}
use Rattle.ps_journal.specs.declared.journal.AppendRefusal.TheVariants as append
use Rattle.ps_journal.specs.declared.opening.JournalWhy.{JournalWhy}
use Rattle.ps_journal.specs.declared.opening.JournalWhy.TheVariants as why
use Rattle.ps_hall_open.specs.declared.opened.ReadWhy.{ReadWhy}
use Rattle.ps_hall_open.specs.declared.opened.ReadWhy.TheVariants as read
use Rattle.ps_compact.specs.declared.compacting.CompactOutcome.{CompactOutcome}
use Rattle.ps_compact.specs.declared.compacting.CompactOutcome.TheVariants as compact
use Rattle.ps_compact.specs.declared.writing.WriteWhy.{WriteWhy}
use Rattle.ps_compact.specs.declared.writing.WriteWhy.TheVariants.{Full, Memory, Occupied, Store}

-- a damaged store isn't an empty one
abbrev pub refused_by : JournalWhy → WriteWhy
refused_by (why.Damaged at before) = Occupied
refused_by why.Store = Store
refused_by why.Memory = Memory

-- and where its frame isn't written
abbrev pub appended_by : AppendRefusal → WriteWhy
appended_by append.Full = Full
appended_by append.Store = Store

-- where the old store isn't read, and where it is
abbrev pub unread_by : ReadWhy → CompactOutcome
unread_by (read.Damaged at) = compact.Damaged at
unread_by read.Store = compact.Store
unread_by read.Memory = compact.Memory

abbrev pub ended_by : {T : Type 0} → Result T WriteWhy → CompactOutcome
ended_by (Ok x) = compact.Done
ended_by (Err Store) = compact.Store
ended_by (Err Occupied) = compact.Occupied
ended_by (Err Full) = compact.Full
ended_by (Err Memory) = compact.Memory
