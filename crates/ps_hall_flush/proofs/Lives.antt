-- How long the two values last: as long as what names the opening, and as the disk.
use Rattle.std.proofs.Common.{ℕ, List, [], ◌++◌}
use contract.BorrowLft.{◌⊑◌, ⊑_meet, ⊑_static}

both : (κ a b : List ℕ) → κ ⊑ a → κ ⊑ b → κ ⊑ a ++ b
both κ a b p q = ⊑_meet κ a b p q

alone : (κ a : List ℕ) → κ ⊑ a → κ ⊑ a ++ []
alone κ a p = ⊑_meet κ a [] p (⊑_static κ)

pub home_lasts : (κ b : List ℕ) → κ ⊑ b → κ ⊑ (b ++ []) ++ (((b ++ []) ++ []) ++ [])
home_lasts κ b p = both κ (b ++ []) (((b ++ []) ++ []) ++ []) (alone κ b p) (alone κ ((b ++ []) ++ []) (alone κ (b ++ []) (alone κ b p)))

pub archive_lasts : (κ b d : List ℕ) → κ ⊑ b → κ ⊑ d → κ ⊑ (b ++ (d ++ [])) ++ (((d ++ []) ++ (((d ++ []) ++ (d ++ [])) ++ [])) ++ (((b ++ []) ++ []) ++ []))
archive_lasts κ b d p q =
    let one = alone κ d q in
    let journal = alone κ ((d ++ []) ++ (d ++ [])) (both κ (d ++ []) (d ++ []) one one) in
    both κ (b ++ (d ++ [])) (((d ++ []) ++ (((d ++ []) ++ (d ++ [])) ++ [])) ++ (((b ++ []) ++ []) ++ [])) (both κ b (d ++ []) p one)
    (both κ ((d ++ []) ++ (((d ++ []) ++ (d ++ [])) ++ [])) (((b ++ []) ++ []) ++ []) (both κ (d ++ []) (((d ++ []) ++ (d ++ [])) ++ []) one journal)
    (alone κ ((b ++ []) ++ []) (alone κ (b ++ []) (alone κ b p))))
