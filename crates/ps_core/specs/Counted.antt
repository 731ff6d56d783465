-- How many ids and notices were made. Ids: at most as many as there are entries and 2^62 more, since a row of a compacted store tells of
-- fewer than these, and each other entry makes one at most. Notices: at most a list of them an entry.
use Rattle.std.specs.Prelude.{ℕ, ◌≤◌, ◌+◌, ◌*◌, ◌^◌, List, [], ◌∷◌}
use Rattle.ps_types.specs.declared.jid.Jid.{Jid}
use Rattle.ps_types.specs.declared.rows.CountRow.{CountRow}
use Rattle.ps_types.specs.declared.rows.TallyRow.{TallyRow}
use Rattle.ps_model.specs.Tallies.{made_for}
use Rattle.ps_book_laws.specs.Addressed.{HasEarlyItems, NamesAddresses}
use Rattle.ps_core.specs.States.{Part}

abbrev pub AllBelow : ℕ → List CountRow → Type 0
AllBelow most [] = Unit {0}
AllBelow most (row ∷ rows) = (row.made ≤ most) × AllBelow most rows

abbrev pub AreCounted : Part → Type 0
AreCounted p = AllBelow (p.count + 2 ^ 62) p.book.counts

-- a list is shorter than 2^63
abbrev pub AreFewMade : ℕ → List TallyRow → Type 0
AreFewMade count tallies = (who : Jid) → made_for who tallies ≤ count * 2 ^ 63

-- what holds of the State after each list of entries
pub record Holds (p : Part) : Type 0 where
  pub counted : AreCounted p
  pub names : NamesAddresses p.book
  pub early : HasEarlyItems p.book
