-- When a contact is as it was.
use Rattle.std.specs.Prelude.{ℕ, Bool, ◌&&◌, ◌==◌, length, List}
use Rattle.std.specs.Cmp.Lexicographic.{pointwise}
use Rattle.std.specs.Str.{bytes_eq}
use Rattle.ps_types.specs.declared.rows.RosterRow.{RosterRow}
use Rattle.ps_types.specs.declared.rows.RosterState.{RosterState}
use Rattle.ps_types.specs.contracts.rows.RosterStatePartialEq.TheImpl as state

-- the row is of bare addresses, and has this state and these groups
abbrev pub is_contact : RosterState → List (List ℕ) → RosterRow → Bool
is_contact s groups row = (length row.account.resource == 0) && ((length row.contact.resource == 0) && (state.eq-value.it s row.state && pointwise bytes_eq groups row.groups))
