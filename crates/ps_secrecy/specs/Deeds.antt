-- An entry of one world: where it is accepted it counts, and else it does nothing.
use Rattle.std.specs.Prelude.{◌≡◌, true, List, [], cond}
use Rattle.ps_types.specs.declared.entry.Entry.{Entry}
use Rattle.ps_types.specs.declared.entry.Entry.TheVariants.{Change}
use Rattle.ps_types.specs.declared.entry.Notice.{Notice}
use Rattle.ps_model.specs.After.{after, notices_at}
use Rattle.ps_model.specs.Book.{State}
use Rattle.ps_model.specs.Replay.{accepted}
use Rattle.ps_model.specs.Tallies.{is_next_line}

-- the State that it leaves, and its notices
abbrev pub applied : State → Entry → State
applied s e = cond (accepted s e) (after s e) s

abbrev pub applied_notices : State → Entry → List Notice
applied_notices s e = cond (accepted s e) (notices_at s e) []

-- a change is of a line above the greatest one of its host
abbrev pub IsAbove : State → Entry → Type 0
IsAbove s (Change host line moment t) = is_next_line host line s.lines ≡ true
IsAbove s _ = Unit {0}
