-- The text that an entry holds.
use Rattle.std.specs.Prelude.{ℕ, List, []}
use Rattle.ps_types.specs.Print.{print}
use Rattle.ps_types.specs.declared.entry.Entry.{Entry}
use Rattle.ps_types.specs.declared.entry.Entry.TheVariants.{Boot, Change, Handed, Gone, Base}

-- the print of its tree, which is empty where it has none
abbrev pub print_in : Entry → List ℕ
print_in (Boot service) = []
print_in (Change host line moment t) = print t
print_in (Handed to) = []
print_in (Gone host) = []
print_in (Base row) = print row
