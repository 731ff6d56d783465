-- A number or none as one number.
use Rattle.std.specs.Prelude.{◌≡◌, ℕ, zero, suc, Option, Some, None, refl}

abbrev pub unpacked : ℕ → Option ℕ
unpacked zero = None
unpacked (suc n) = Some n

abbrev pub packed : Option ℕ → ℕ
packed None = 0
packed (Some n) = suc n

pub packed-unpacked : (n : ℕ) → packed (unpacked n) ≡ n
packed-unpacked zero = refl
packed-unpacked (suc n) = refl
