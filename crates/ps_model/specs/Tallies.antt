-- The numbers beside the Book: the notices made for each bare address and handed to it, and the greatest line of each host since the last boot.
use Rattle.std.specs.Prelude.{ℕ, ◌+◌, Bool, true, nat_lt, List, Option, Some, None, find, bytes_eq}
use Rattle.ps_base.specs.Rows.{put_row}
use Rattle.ps_types.specs.Address.{bare}
use Rattle.ps_types.specs.Same.{same_bare}
use Rattle.ps_types.specs.declared.jid.Jid.{Jid}
use Rattle.ps_types.specs.declared.rows.LineRow.{LineRow}
use Rattle.ps_types.specs.declared.rows.TallyRow.{TallyRow}

abbrev pub is_tally_of : Jid → TallyRow → Bool
is_tally_of who row = same_bare who row.who

abbrev pub made_in : Option TallyRow → ℕ
made_in None = 0
made_in (Some row) = row.made

abbrev pub handed_in : Option TallyRow → ℕ
handed_in None = 0
handed_in (Some row) = row.handed

-- the notices made for the bare address, and those handed to it
abbrev pub made_for : Jid → List TallyRow → ℕ
made_for who rows = made_in (find (is_tally_of who) rows)

abbrev pub handed_to : Jid → List TallyRow → ℕ
handed_to who rows = handed_in (find (is_tally_of who) rows)

-- the rows after the numbers of a bare address are set
abbrev pub tallies_with : Jid → ℕ → ℕ → List TallyRow → List TallyRow
tallies_with who made handed rows = put_row (is_tally_of who) (record { who = bare who; made = made; handed = handed }) rows

-- so many notices more are made for it, or one more is handed to it
abbrev pub more_made : Jid → ℕ → List TallyRow → List TallyRow
more_made who more rows = tallies_with who (made_for who rows + more) (handed_to who rows) rows

abbrev pub one_handed : Jid → List TallyRow → List TallyRow
one_handed who rows = tallies_with who (made_for who rows) (handed_to who rows + 1) rows

-- ---- lines

abbrev pub is_line_of : List ℕ → LineRow → Bool
is_line_of host row = bytes_eq host row.host

abbrev pub line_in : Option LineRow → ℕ
line_in None = 0
line_in (Some row) = row.line

-- the greatest line of the host, 0 where it has none
abbrev pub greatest_line : List ℕ → List LineRow → ℕ
greatest_line host rows = line_in (find (is_line_of host) rows)

abbrev pub is_after_row : ℕ → Option LineRow → Bool
is_after_row line None = true
is_after_row line (Some row) = nat_lt row.line line

-- the line is greater than those of the host so far
abbrev pub is_next_line : List ℕ → ℕ → List LineRow → Bool
is_next_line host line rows = is_after_row line (find (is_line_of host) rows)

abbrev pub lines_with : List ℕ → ℕ → List LineRow → List LineRow
lines_with host line rows = put_row (is_line_of host) (record { host = host; line = line }) rows
