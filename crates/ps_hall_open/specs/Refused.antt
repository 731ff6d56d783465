-- Why a store is not opened where its journal isn't.
use Rattle.ps_journal.specs.declared.opening.JournalWhy.{JournalWhy}
use Rattle.ps_journal.specs.declared.opening.JournalWhy.TheVariants as journal
use Rattle.ps_hall_open.specs.declared.opened.OpenWhy.{OpenWhy}
use Rattle.ps_hall_open.specs.declared.opened.OpenWhy.TheVariants as opened
use Rattle.ps_hall_open.specs.declared.opened.ReadWhy.{ReadWhy}
use Rattle.ps_hall_open.specs.declared.opened.ReadWhy.TheVariants.{Damaged, Store, Memory}

-- what is not read is not opened
abbrev pub open_why : ReadWhy → OpenWhy
open_why (Damaged at) = opened.Damaged at
open_why Store = opened.Store
open_why Memory = opened.Memory

-- what isn't opened by its journal is not read
abbrev pub read_why : JournalWhy → ReadWhy
read_why (journal.Damaged at before) = Damaged at
read_why journal.Store = Store
read_why journal.Memory = Memory
