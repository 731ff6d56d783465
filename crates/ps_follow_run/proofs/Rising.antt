-- Counts that rise, and bytes that are given, over several calls.
use Rattle.std.proofs.Common.{◌⊎◌, inl, inr, ℕ, ◌+◌, ◌≤◌, ◌^◌, arith, List, length, Option, ap}
use Rattle.ps_base.specs.Causes.{Rose}
use Rattle.ps_wire.specs.Reading.{Gave, IsFresh, budget_of}
use Rattle.ps_wire.specs.declared.lines.Lines.{Lines}
use Rattle.ps_wire.specs.declared.streams.Source.{Ghosts}
use Rattle.ps_wire.proofs.Gaining.{gave_more}

-- a source gave bytes, and then gave more
pub gave-on : (first second third : Option (List ℕ)) (given mid now : ℕ) → Gave first second given mid → Gave second third mid now → Gave first third given now
gave-on first second third given mid now a b = gave_more first second third given mid now b.0 a b.1 b.2

-- a count that rose later rose
pub rose-later : (before mid now : ℕ) → before ≤ mid → Rose mid now → Rose before now
rose-later before mid now le r = omega (arith, le, r)

-- and one that rose stays so
pub rose-stays : (before mid now : ℕ) → mid ≤ now → Rose before mid → Rose before now
rose-stays before mid now le r = omega (arith, le, r)

-- of three counts
pub rose-on : (a b c a' b' c' a'' b'' c'' : ℕ) → a ≤ a' → b ≤ b' → c ≤ c' → Rose a' a'' ⊎ (Rose b' b'' ⊎ Rose c' c'') → Rose a a'' ⊎ (Rose b b'' ⊎ Rose c c'')
rose-on a b c a' b' c' a'' b'' c'' x y z (inl r) = inl (rose-later a a' a'' x r)
rose-on a b c a' b' c' a'' b'' c'' x y z (inr (inl r)) = inr (inl (rose-later b b' b'' y r))
rose-on a b c a' b' c' a'' b'' c'' x y z (inr (inr r)) = inr (inr (rose-later c c' c'' z r))

pub fresh-bound : {S : Type 0} {g : Ghosts S} (lines : Lines S g) → IsFresh lines → 0 + budget_of lines ≤ 2 ^ 40
fresh-bound lines f =
    let h = ap (λ (t : List ℕ). length t) f.holds_none in
    let n = f.given_none in
    omega (arith, h, n)
