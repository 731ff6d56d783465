-- What the second copy is to the first.
use Rattle.std.specs.Prelude.{◌≡◌, ◌+◌, ◌<◌, ◌≤◌, ◌^◌, true, Option, Some, None}
use Rattle.ps_base.specs.Rows.{Table}
use Rattle.ps_types.specs.declared.entry.Entry.{Entry}
use Rattle.ps_types.specs.declared.rows.TallyRow.{TallyRow}
use Rattle.ps_model.specs.After.{tallies_after}
use Rattle.ps_model.specs.Book.{State}
use Rattle.ps_book_laws.specs.Addressed.{IsTimely}
use Rattle.ps_core.specs.Counted.{AreFewMade, Holds}
use Rattle.ps_core.specs.Numbers.{Fit, numbers_after, rows_set}
use Rattle.ps_core.specs.Requests.{IsRequestOf}
use Rattle.ps_core.specs.States.{Part, fits_book, part_after, state_with}
use Rattle.ps_core.specs.declared.numbers.NumberChange.{NumberChange}
use Rattle.ps_core.specs.declared.service.Kept.{Kept}
use Rattle.ps_core.specs.declared.service.Stage.{Stage}
use Rattle.ps_core.specs.declared.service.Stage.TheVariants.{Even, Prepared, Behind, Stale}

-- a State, and the entry that is prepared, if any
pub record Held : Type 0 where
  pub state : State
  pub prepared : Option Entry

abbrev pub prepared_in : Stage → Option Entry
prepared_in Even = None
prepared_in (Prepared kept numbers) = Some kept.entry
prepared_in (Behind kept) = None
prepared_in Stale = None

-- an entry is accepted at a State that has room for it, and its request is known
pub record Follows (old : Part) (kept : Kept) (new : Part) : Type 0 where
  pub is_accepted : fits_book old.book kept.entry ≡ true
  pub few : old.count < 2 ^ 62
  pub is_timely : IsTimely kept.entry
  pub holds : Holds old
  pub is_requested : IsRequestOf old.book.service kept.entry kept.request
  pub is_after : new ≡ part_after old kept.entry

-- what the entry does to the numbers is known, and there is room for it
pub record AreNumbers (p : Part) (tallies : Table TallyRow) (e : Entry) (numbers : NumberChange) : Type 0 where
  pub is_after : tallies_after (state_with p tallies.rows) e ≡ numbers_after numbers tallies.rows
  pub room : rows_set numbers ≤ tallies.spare
  pub fit : Fit numbers tallies.rows
  pub few : AreFewMade (p.count + 1) (numbers_after numbers tallies.rows)

abbrev pub IsStage : Stage → Part → Part → Table TallyRow → Type 0
IsStage Even front back tallies = back ≡ front
IsStage (Prepared kept numbers) front back tallies = Follows front kept back × AreNumbers front tallies kept.entry numbers
IsStage (Behind kept) front back tallies = Follows back kept front
IsStage Stale front back tallies = Unit {0}

-- the second copy alone, where it isn't to be made anew
abbrev pub IsBack : Stage → Part → Part → Type 0
IsBack Even front back = back ≡ front
IsBack (Prepared kept numbers) front back = Unit {0}
IsBack (Behind kept) front back = Follows back kept front
IsBack Stale front back = Unit {0}

-- the first copy is one that entries leave, the second is what the stage says, and the numbers are few
pub record StageIsKept (stage : Stage) (front back : Part) (tallies : Table TallyRow) : Type 0 where
  pub holds : Holds front
  pub few : AreFewMade front.count tallies.rows
  pub staged : IsStage stage front back tallies
