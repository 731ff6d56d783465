-- The openings that a command asks for.
use Rattle.std.specs.Prelude.{◌≡◌, ℕ, List, ◌++◌, take}
use Rattle.ps_io.specs.declared.world.OpenCall.{OpenCall}

-- what was asked for is a front of these openings
abbrev pub AsksInOrder : List OpenCall → List OpenCall → List OpenCall → Type 0
AsksInOrder openings old new = (n : ℕ) × (new ≡ old ++ take n openings)
