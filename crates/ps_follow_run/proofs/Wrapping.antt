-- A place that is told in 64 bits: its bytes are those of the number.
use Rattle.std.proofs.Common.{◌≡◌, ℕ, zero, suc, ◌*◌, ◌/◌, ◌%◌, ◌^◌, ◌<◌, arith, List, ◌∷◌, refl, ap, ◌∙◌}
use Rattle.std.specs.Int.{byte_at, bytes_high_first, to_be_bytes, w64}
use Rattle.std.proofs.Math.Arith.{mod-mul}
use Rattle.std.proofs.lemmas.Nat.{div-mul-add, mod-mul-add, mod_below}

low-mod : (n b : ℕ) → zero < b → n % (b * 256) % 256 ≡ n % 256
low-mod n b many =
    let some : zero < 256 = omega arith in
    ap (λ (x : ℕ). x % 256) (mod-mul n {m = b} {c = 256} many some) ∙ mod-mul-add (n / 256 % b) 256 (n % 256) (mod_below n 256 some)

-- the byte that is worth a, of a number and of its remainder by b * 256 * a
byte-mod : (n b a : ℕ) → zero < b → zero < b * 256 → zero < a → n % (b * 256 * a) / a % 256 ≡ n / a % 256
byte-mod n b a many more some =
    ap (λ (x : ℕ). x / a % 256) (mod-mul n {m = b * 256} {c = a} more some)
    ∙ ap (λ (x : ℕ). x % 256) (div-mul-add (n / a % (b * 256)) a (n % a) (mod_below n a some))
    ∙ low-mod (n / a) b many

next : (k n : ℕ) → byte_at k (n % 2 ^ 64) ≡ byte_at k n → bytes_high_first k (n % 2 ^ 64) ≡ bytes_high_first k n
    → bytes_high_first (suc k) (n % 2 ^ 64) ≡ bytes_high_first (suc k) n
next k n byte rest = ap (λ (x : ℕ). x ∷ bytes_high_first k (n % 2 ^ 64)) byte ∙ ap (λ (l : List ℕ). byte_at k n ∷ l) rest

pub wrapped-bytes : (n : ℕ) → to_be_bytes w64 (n % 2 ^ 64) ≡ to_be_bytes w64 n
wrapped-bytes n =
    next 7 n (byte-mod n 1 (256 ^ 7) (omega arith) (omega arith) (omega arith))
    (next 6 n (byte-mod n 256 (256 ^ 6) (omega arith) (omega arith) (omega arith))
    (next 5 n (byte-mod n (256 ^ 2) (256 ^ 5) (omega arith) (omega arith) (omega arith))
    (next 4 n (byte-mod n (256 ^ 3) (256 ^ 4) (omega arith) (omega arith) (omega arith))
    (next 3 n (byte-mod n (256 ^ 4) (256 ^ 3) (omega arith) (omega arith) (omega arith))
    (next 2 n (byte-mod n (256 ^ 5) (256 ^ 2) (omega arith) (omega arith) (omega arith))
    (next 1 n (byte-mod n (256 ^ 6) (256 ^ 1) (omega arith) (omega arith) (omega arith))
    (next 0 n (low-mod n (256 ^ 7) (omega arith)) refl)))))))
