-- What events give, one after the other and by address, and what is asked of the numbers for it.
use Rattle.std.specs.Prelude.{◌<◌, ◌^◌, Bool, true, false, List, [], ◌∷◌, flat_map}
use Rattle.std.specs.Cmp.Lexicographic.{slice_cmp}
use Rattle.std.specs.Ordering.{nat_cmp, match_ordering}
use Rattle.ps_types.specs.Address.{jid_text}
use Rattle.ps_types.specs.Tree.{Tree}
use Rattle.ps_types.specs.declared.event.Event.{Event}
use Rattle.ps_types.specs.declared.event.Event.TheVariants.{Delete}
use Rattle.ps_types.specs.declared.jid.Jid.{Jid}
use Rattle.ps_types.specs.declared.rows.TallyRow.{TallyRow}
use Rattle.ps_model.specs.After.{book_for}
use Rattle.ps_model.specs.Book.{Book}
use Rattle.ps_model.specs.Tallies.{made_for, more_made}
use Rattle.ps_fanout.specs.Told.{told}

abbrev pub is_delete : Event → Bool
is_delete (Delete node) = true
is_delete _ = false

-- what an event gives, in the Book in which it is asked
abbrev pub told_of : Book → Book → Event → List (Jid × Tree)
told_of before after ev = told (book_for ev before after) ev

-- what the events give, in their order
abbrev pub told_each : Book → Book → List Event → List (Jid × Tree)
told_each before after evs = flat_map (told_of before after) evs

-- it is put where its address belongs, before what the address has
abbrev pub put_due : Jid × Tree → List (Jid × Tree) → List (Jid × Tree)
put_due d [] = d ∷ []
put_due d (x ∷ xs) = match_ordering (slice_cmp nat_cmp (jid_text d.0) (jid_text x.0)) (d ∷ x ∷ xs) (d ∷ x ∷ xs) (x ∷ put_due d xs)

-- by address in the order of the octets, and for an address as they stood
abbrev pub arranged : List (Jid × Tree) → List (Jid × Tree)
arranged [] = []
arranged (d ∷ more) = put_due d (arranged more)

-- ---- the numbers

-- so few were made for each address that the numbers of one entry's notices stay below the end of their type
abbrev pub AreFew : List TallyRow → Type 0
AreFew tallies = (who : Jid) → made_for who tallies < 2 ^ 127

-- the tallies after one notice more for each of these addresses
abbrev pub tallied_by : List TallyRow → List Jid → List TallyRow
tallied_by tallies [] = tallies
tallied_by tallies (who ∷ more) = tallied_by (more_made who 1 tallies) more
