-- What the service holds: the service host and nine lists of rows, and the numbers beside them.
use Rattle.std.specs.Prelude.{List, [], ℕ}
use Rattle.ps_types.specs.declared.rows.NodeRow.{NodeRow}
use Rattle.ps_types.specs.declared.rows.AffilRow.{AffilRow}
use Rattle.ps_types.specs.declared.rows.SubRow.{SubRow}
use Rattle.ps_types.specs.declared.rows.ItemRow.{ItemRow}
use Rattle.ps_types.specs.declared.rows.LinkRow.{LinkRow}
use Rattle.ps_types.specs.declared.rows.RosterRow.{RosterRow}
use Rattle.ps_types.specs.declared.rows.ResourceRow.{ResourceRow}
use Rattle.ps_types.specs.declared.rows.VerRow.{VerRow}
use Rattle.ps_types.specs.declared.rows.CountRow.{CountRow}
use Rattle.ps_types.specs.declared.rows.LineRow.{LineRow}
use Rattle.ps_types.specs.declared.rows.TallyRow.{TallyRow}

-- each list in the order of making, the items in the order of publishing
pub record Book : Type 0 where
  pub service : List ℕ
  pub nodes : List NodeRow
  pub affils : List AffilRow
  pub subs : List SubRow
  pub items : List ItemRow
  pub links : List LinkRow
  pub rosters : List RosterRow
  pub resources : List ResourceRow
  pub vers : List VerRow
  pub counts : List CountRow

-- the Book before anything is asked
abbrev pub empty_book : Book
empty_book = record { service = []; nodes = []; affils = []; subs = []; items = []; links = []; rosters = []; resources = []; vers = []; counts = [] }

-- a Book, the number of entries so far, for each bare address the notices made and handed, and for each host the greatest line since the last boot
pub record State : Type 0 where
  pub book : Book
  pub count : ℕ
  pub tallies : List TallyRow
  pub lines : List LineRow

abbrev pub empty_state : State
empty_state = record { book = empty_book; count = 0; tallies = []; lines = [] }
