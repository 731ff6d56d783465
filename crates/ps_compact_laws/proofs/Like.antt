-- Two States that serve alike: equal Books, equal numbers for each address, equal lines; the count of entries and the order of the numbers may differ.
use Rattle.std.specs.Prelude.{◌≡◌, List, []}
use Rattle.ps_types.specs.declared.jid.Jid.{Jid}
use Rattle.ps_types.specs.declared.rows.TallyRow.{TallyRow}
use Rattle.ps_model.specs.Book.{Book, State}
use Rattle.ps_model.specs.Tallies.{made_for, handed_to}

pub record SameNumbers (x y : List TallyRow) : Type 0 where
  pub made : (a : Jid) → made_for a x ≡ made_for a y
  pub handed : (a : Jid) → handed_to a x ≡ handed_to a y

-- serves alike from here on
pub record IsLike (s t : State) : Type 0 where
  pub book : s.book ≡ t.book
  pub numbers : SameNumbers s.tallies t.tallies
  pub lines : s.lines ≡ t.lines

-- serves alike from the next boot on
abbrev pub unset : Book → Book
unset book = record book { service = []; resources = [] }

pub record IsAsleep (s t : State) : Type 0 where
  pub book : unset s.book ≡ unset t.book
  pub numbers : SameNumbers s.tallies t.tallies
