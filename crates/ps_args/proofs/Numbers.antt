-- Numbers that are written in digits.
use Rattle.std.proofs.Common.{◌≡◌, ◌<◌, ◌≤◌, ◌^◌, ℕ, zero, suc, Bool, true, false, cond, ◌&&◌, List, [], ◌∷◌, length, Some, None, Result, Ok, refl, sym, ap, ◌∙◌, arith}
use Rattle.std.specs.Prelude.{not, ◌==◌, nat_le}
use Rattle.std.specs.Char.{is_ascii_digit}
use Rattle.std.specs.List.{list_all}
use Rattle.std.specs.Str.{all_ascii_digits}
use Rattle.std.specs.Str.Parse.{digits_value, ParsesUnsigned}
use Rattle.std.proofs.lemmas.Bool.Decides.{nat_tests}
use Rattle.std.proofs.lemmas.Str.Parse.{IsNumeralModel, numerals_by_value, tells_all_ascii_digits, parse_gives, digits_value_short}
use Rattle.ps_types.specs.Values.{are_digits}
use Rattle.ps_args.specs.Words.{number_in}

pub digits_each : (text : List ℕ) → list_all is_ascii_digit text ≡ all_ascii_digits text
digits_each [] = refl
digits_each (x ∷ text) = ap (λ (b : Bool). is_ascii_digit x && b) (digits_each text)

pub own : IsNumeralModel (λ ds. all_ascii_digits ds ≡ true) (digits_value 10)
own = numerals_by_value _ tells_all_ascii_digits

pub and-left : (a b : Bool) → (a && b) ≡ true → a ≡ true
and-left true b h = refl
and-left false b h = h

pub and-right : (a b : Bool) → (a && b) ≡ true → b ≡ true
and-right true b h = h
and-right false true h = refl
and-right false false h = h

pub positive : (n : ℕ) → not (n == 0) ≡ true → 0 < n
positive zero h = absurd (cc)
positive (suc n) h = omega arith

-- what 1 to 20 digits parse as
pub number-read : {E : Type 0} (text : List ℕ) (r : Result ℕ E) → are_digits 20 text ≡ true → ParsesUnsigned 128 10 text r → r ≡ Ok (digits_value 10 text)
number-read text r digits h =
    let some : Bool = not (length text == 0) in
    let few : Bool = nat_le (length text) 20 in
    let all : Bool = all_ascii_digits text in
    let b : (some && few) ≡ true = and-left (some && few) all digits in
    let d : all ≡ true = and-right (some && few) all digits in
    let a : some ≡ true = and-left some few b in
    let short : few ≡ true = and-right some few b in
    let n : length text ≤ 20 = grind (arith, nat_tests, short) in
    let v : digits_value 10 text < 10 ^ 20 = digits_value_short own text 20 d n in
    parse_gives own 128 text r h d (positive (length text) a) (omega arith)

-- as the number that they write
pub read-value : {E : Type 0} (text : List ℕ) (n : ℕ) (r : Result ℕ E) → are_digits 20 text ≡ true → ParsesUnsigned 128 10 text r → r ≡ Ok n → Some n ≡ number_in text
read-value text n r digits h is =
    let m : n ≡ digits_value 10 text = cc (number-read text r digits h) in
    ap (λ (k : ℕ). Some k) m ∙ ap (λ (b : Bool). cond b (Some (digits_value 10 text)) None) (sym digits)
