-- The content of a string in a text of UTF-8 is UTF-8.
use Rattle.std.proofs.Common.{
  ◌≡◌,
  ℕ,
  ◌+◌,
  ◌*◌,
  ◌<◌,
  Bool,
  true,
  false,
  cond,
  ◌&&◌,
  ◌==◌,
  nat_lt,
  List,
  [],
  ◌∷◌,
  ◌++◌,
  length,
  get_or,
  Option,
  Some,
  None,
  option_and_then,
  IsUtf8,
  refl,
  sym,
  subst,
  arith,
  append_assoc,
  append-nil,
}
use Rattle.std.specs.Char.{digit_value, is_digit, encode_utf8, IsScalar}
use Rattle.std.proofs.lemmas.Bool.{eqb-true, and_parts}
use Rattle.std.proofs.lemmas.Bool.Decides.{nat_tests}
use Rattle.std.proofs.lemmas.List.{take_at, drop_at}
use Rattle.std.proofs.lemmas.Str.{IsUtf8-append, IsUtf8-encode, IsUtf8-take, IsUtf8-drop, IsCharBoundary-before_ascii, IsCharBoundary-after_ascii, encode_ascii}
use Rattle.json.specs.Text.{code_unit, short_escape, is_high_surrogate, is_low_surrogate, surrogate_pair, Within, plain, after_backslash, after_u, after_high, prepend, content}
use Rattle.ps_spelling_laws.proofs.When.{When, whichever}

at-seam : (front : List ℕ) (x : ℕ) (rest : List ℕ) → get_or (front ++ x ∷ rest) (length front) 0 ≡ x
at-seam [] x rest = refl
at-seam (y ∷ front) x rest = at-seam front x rest

longer : (front : List ℕ) (x : ℕ) (rest : List ℕ) → length front < length (front ++ x ∷ rest)
longer [] x rest = omega arith
longer (y ∷ front) x rest = omega (arith, longer front x rest)

pub record Beside (front rest : List ℕ) : Type 0 where
  pub before : IsUtf8 front
  pub after : IsUtf8 rest

-- UTF-8 may be cut on both sides of an ASCII byte
pub beside : (front : List ℕ) (x : ℕ) (rest : List ℕ) → x < 128 → IsUtf8 (front ++ x ∷ rest) → Beside front rest
beside front x rest small u =
    let bs : List ℕ = front ++ x ∷ rest in
    let cut = IsCharBoundary-before_ascii bs (length front) (longer front x rest) (omega (arith, at-seam front x rest)) in
    let from : IsUtf8 (x ∷ rest) = subst IsUtf8 (drop_at front (x ∷ rest) (length front) refl) (IsUtf8-drop bs (length front) u cut) in
    record {
      before = subst IsUtf8 (take_at front (x ∷ rest) (length front) refl) (IsUtf8-take bs (length front) u cut);
      after = IsUtf8-drop (x ∷ rest) 1 from (IsCharBoundary-after_ascii (x ∷ rest) 0 from (omega arith) small);
    }

pub behind : (x : ℕ) (rest : List ℕ) → x < 128 → IsUtf8 (x ∷ rest) → IsUtf8 rest
behind x rest small u = (beside [] x rest small u).after

-- ---- what escapes stand for

record IsUnit (a b c d u : ℕ) : Type 0 where
  first : a < 128
  second : b < 128
  third : c < 128
  fourth : d < 128
  unit : u < 65536

hex-small : (x : ℕ) → is_digit x 16 ≡ true → (x < 128) × (digit_value x < 16)
hex-small x h = (grind (arith, nat_tests), grind (arith, nat_tests))

unit-is : (a b c d u : ℕ) → code_unit a b c d ≡ Some u → IsUnit a b c d u
unfolding code_unit
unit-is a b c d u e = by (is_digit a 16 && is_digit b 16 && is_digit c 16 && is_digit d 16) refl e
  where
    by : (t : Bool) → (is_digit a 16 && is_digit b 16 && is_digit c 16 && is_digit d 16) ≡ t
        → cond t (Some (digit_value a * 4096 + digit_value b * 256 + digit_value c * 16 + digit_value d)) None ≡ Some u → IsUnit a b c d u
    by false h k = absurd (cc k)
    by true h k =
        let p = and_parts (is_digit a 16 && is_digit b 16 && is_digit c 16) (is_digit d 16) h in
        let q = and_parts (is_digit a 16 && is_digit b 16) (is_digit c 16) p.0 in
        let r = and_parts (is_digit a 16) (is_digit b 16) q.0 in
        let same : digit_value a * 4096 + digit_value b * 256 + digit_value c * 16 + digit_value d ≡ u = cc k in
        let at = hex-small a r.0 in
        let bt = hex-small b r.1 in
        let ct = hex-small c q.1 in
        let dt = hex-small d p.1 in
        record { first = at.0; second = bt.0; third = ct.0; fourth = dt.0; unit = omega (arith, same, at.1, bt.1, ct.1, dt.1) }

short-is : (x c : ℕ) → short_escape x ≡ Some c → (x < 128) × (c < 128)
unfolding short_escape
short-is x c e = (grind (arith, nat_tests), grind (arith, nat_tests))

alone-scalar : (u : ℕ) → u < 65536 → is_high_surrogate u ≡ false → is_low_surrogate u ≡ false → IsScalar u
alone-scalar u h k l = grind (arith, nat_tests)

pair-scalar : (h l : ℕ) → is_high_surrogate h ≡ true → is_low_surrogate l ≡ true → IsScalar (surrogate_pair h l)
pair-scalar h l p q = grind (arith, nat_tests)

ascii-one : (c : ℕ) → c < 128 → IsUtf8 (c ∷ [])
ascii-one c small = subst IsUtf8 (encode_ascii c small) (IsUtf8-encode c (grind (arith, nat_tests)))

-- ---- the content

-- what stands before is UTF-8 with it
abbrev Behind : List ℕ → Option (List ℕ) → Type 0
Behind front o = When (λ s. IsUtf8 (front ++ s)) o

abbrev Ready : Within → List ℕ → List ℕ → Type 0
Ready plain front text = IsUtf8 (front ++ text)
Ready after_backslash front text = Beside front text
Ready after_u front text = Beside front text
Ready (after_high h) front text = Beside front text × (is_high_surrogate h ≡ true)

one-more : (front : List ℕ) (x : ℕ) (r : Option (List ℕ)) → Behind (front ++ x ∷ []) r → Behind front (prepend (x ∷ []) r)
one-more front x None h = tt
one-more front x (Some s) h = subst IsUtf8 (append_assoc front (x ∷ []) s) h

joined : (front bytes : List ℕ) (r : Option (List ℕ)) → IsUtf8 front → IsUtf8 bytes → Behind [] r → Behind front (prepend bytes r)
joined front bytes None u v h = tt
joined front bytes (Some s) u v h = IsUtf8-append front (bytes ++ s) u (IsUtf8-append bytes s v h)

found : (front : List ℕ) (f : ℕ → Option (List ℕ)) (o : Option ℕ) → ((u : ℕ) → o ≡ Some u → Behind front (f u)) → Behind front (option_and_then f o)
found front f None h = tt
found front f (Some u) h = h u refl

past-four : (a b c d : ℕ) (rest : List ℕ) → a < 128 → b < 128 → c < 128 → d < 128 → IsUtf8 (a ∷ b ∷ c ∷ d ∷ rest) → IsUtf8 rest
past-four a b c d rest ha hb hc hd u = behind d rest hd (behind c (d ∷ rest) hc (behind b (c ∷ d ∷ rest) hb (behind a (b ∷ c ∷ d ∷ rest) ha u)))

pub content-utf8 : (w : Within) (front text : List ℕ) → Ready w front text → Behind front (content w text)
unfolding content
content-utf8 plain front [] r = tt
content-utf8 plain front (x ∷ text) r =
    whichever (λ s. IsUtf8 (front ++ s)) (x == 34) _ _
    (λ q. subst IsUtf8 (sym (append-nil front)) (beside front x text (omega (arith, eqb-true x 34 q)) r).before)
    (λ q. whichever (λ s. IsUtf8 (front ++ s)) (x == 92) _ _
    (λ b. content-utf8 after_backslash front text (beside front x text (omega (arith, eqb-true x 92 b)) r))
    (λ b. whichever (λ s. IsUtf8 (front ++ s)) (nat_lt x 32) _ _ (λ l. tt)
    (λ l. one-more front x (content plain text) (content-utf8 plain (front ++ x ∷ []) text (subst IsUtf8 (sym (append_assoc front (x ∷ []) text)) r)))))
content-utf8 after_backslash front [] r = tt
content-utf8 after_backslash front (x ∷ text) r =
    whichever (λ s. IsUtf8 (front ++ s)) (x == 117) _ _
    (λ u. content-utf8 after_u front text (record { before = r.before; after = behind x text (omega (arith, eqb-true x 117 u)) r.after }))
    (λ u. found front _ (short_escape x) (λ c e. joined front (c ∷ []) (content plain text) r.before (ascii-one c (short-is x c e).1)
    (content-utf8 plain [] text (behind x text (short-is x c e).0 r.after))))
content-utf8 after_u front [] r = tt
content-utf8 after_u front (a ∷ []) r = tt
content-utf8 after_u front (a ∷ b ∷ []) r = tt
content-utf8 after_u front (a ∷ b ∷ c ∷ []) r = tt
content-utf8 after_u front (a ∷ b ∷ c ∷ d ∷ text) r =
    found front _ (code_unit a b c d) (λ u e.
    let i = unit-is a b c d u e in
    let rest : IsUtf8 text = past-four a b c d text i.first i.second i.third i.fourth r.after in
    whichever (λ s. IsUtf8 (front ++ s)) (is_high_surrogate u) _ _
    (λ h. content-utf8 (after_high u) front text (record { before = r.before; after = rest }, h))
    (λ h. whichever (λ s. IsUtf8 (front ++ s)) (is_low_surrogate u) _ _ (λ l. tt)
    (λ l. joined front (encode_utf8 u) (content plain text) r.before (IsUtf8-encode u (alone-scalar u i.unit h l)) (content-utf8 plain [] text rest))))
content-utf8 (after_high h) front [] r = tt
content-utf8 (after_high h) front (s ∷ []) r = tt
content-utf8 (after_high h) front (s ∷ u ∷ []) r = tt
content-utf8 (after_high h) front (s ∷ u ∷ a ∷ []) r = tt
content-utf8 (after_high h) front (s ∷ u ∷ a ∷ b ∷ []) r = tt
content-utf8 (after_high h) front (s ∷ u ∷ a ∷ b ∷ c ∷ []) r = tt
content-utf8 (after_high h) front (s ∷ u ∷ a ∷ b ∷ c ∷ d ∷ text) r =
    whichever (λ s. IsUtf8 (front ++ s)) ((s == 92) && (u == 117)) _ _
    (λ e. found front _ (code_unit a b c d) (λ l k.
    let both = and_parts (s == 92) (u == 117) e in
    let i = unit-is a b c d l k in
    let units : IsUtf8 (a ∷ b ∷ c ∷ d ∷ text) = behind u (a ∷ b ∷ c ∷ d ∷ text) (omega (arith, eqb-true u 117 both.1))
    (behind s (u ∷ a ∷ b ∷ c ∷ d ∷ text) (omega (arith, eqb-true s 92 both.0)) r.0.after) in
    whichever (λ s. IsUtf8 (front ++ s)) (is_low_surrogate l) _ _
    (λ y. joined front (encode_utf8 (surrogate_pair h l)) (content plain text) r.0.before (IsUtf8-encode (surrogate_pair h l) (pair-scalar h l r.1 y))
    (content-utf8 plain [] text (past-four a b c d text i.first i.second i.third i.fourth units)))
    (λ y. tt))) (λ e. tt)
