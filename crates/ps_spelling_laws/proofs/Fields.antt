-- The fields of an entry, read from the left.
use Rattle.std.proofs.Common.{◌≡◌, ℕ, ◌^◌, ◌<◌, List, ◌++◌, length, take, drop, refl, ap, ◌∙◌, append_assoc}
use Rattle.std.specs.Int.{Width, w16, w32, w64, byte_len, from_be_bytes, to_be_bytes}
use Rattle.std.proofs.lemmas.List.{take_at, drop_at}
use Rattle.std.proofs.lemmas.Nat.{from_be_bytes-to_be_bytes_2, from_be_bytes-to_be_bytes_4, from_be_bytes-to_be_bytes_8}

pub record IsWide (w : Width) (limit : ℕ) : Type 0 where
  pub len : (n : ℕ) → length (to_be_bytes w n) ≡ byte_len w
  pub again : (n : ℕ) → n < limit → from_be_bytes w (to_be_bytes w n) ≡ n

pub wide16 : IsWide w16 (2 ^ 16)
wide16 = record { len = λ n. refl; again = λ n lt. from_be_bytes-to_be_bytes_2 n lt }

pub wide32 : IsWide w32 (2 ^ 32)
wide32 = record { len = λ n. refl; again = λ n lt. from_be_bytes-to_be_bytes_4 n lt }

pub wide64 : IsWide w64 (2 ^ 64)
wide64 = record { len = λ n. refl; again = λ n lt. from_be_bytes-to_be_bytes_8 n lt }

-- the number at the front, and what is behind it
abbrev pub number_at : Width → List ℕ → ℕ × List ℕ
number_at w bytes = (from_be_bytes w (take (byte_len w) bytes), drop (byte_len w) bytes)

pub number-again : (w : Width) (limit : ℕ) (wide : IsWide w limit) (n : ℕ) (rest : List ℕ) → n < limit → number_at w (to_be_bytes w n ++ rest) ≡ (n, rest)
number-again w limit wide n rest fits = rw (take_at (to_be_bytes w n) rest (byte_len w) (wide.len n), drop_at (to_be_bytes w n) rest (byte_len w) (wide.len n), wide.again n fits) refl

-- a length, that many bytes, and what is behind them
abbrev cut_at : ℕ × List ℕ → List ℕ × List ℕ
cut_at x = (take x.0 x.1, drop x.0 x.1)

abbrev pub text_at : Width → List ℕ → List ℕ × List ℕ
text_at w bytes = cut_at (number_at w bytes)

pub text-again : (w : Width) (limit : ℕ) (wide : IsWide w limit) (text rest : List ℕ) → length text < limit → text_at w ((to_be_bytes w (length text) ++ text) ++ rest) ≡ (text, rest)
text-again w limit wide text rest fits =
    ap (λ (l : List ℕ). text_at w l) (append_assoc (to_be_bytes w (length text)) text rest) ∙ ap cut_at (number-again w limit wide (length text) (text ++ rest) fits)
    ∙ rw (take_at text rest (length text) refl, drop_at text rest (length text) refl) refl
