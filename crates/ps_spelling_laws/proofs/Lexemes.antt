-- The tokens of a text of UTF-8 have texts of UTF-8.
use Rattle.std.proofs.Common.{◌≡◌, ℕ, ◌-◌, Bool, true, false, cond, nat_eq, ◌&&◌, ◌==◌, List, [], ◌∷◌, ◌++◌, length, take, drop, Option, Some, None, IsUtf8, refl, sym, subst, arith, append_assoc}
use Rattle.std.specs.Prelude.{⊤}
use Rattle.std.specs.List.{starts_with}
use Rattle.std.proofs.lemmas.Bool.{eqb-true}
use Rattle.json.specs.Token.{Token, begin_object, end_object, begin_array, end_array, key, string, number, boolean, null, bad}
use Rattle.json.specs.Text.{content, plain}
use Rattle.json.specs.Word.{is_operator, is_space, head, ends_word, after_number, number_before, literal, word}
use Rattle.json.specs.Ascii as ascii
use Rattle.json.specs.Lex.{
  Lexeme,
  token,
  comma,
  colon,
  Class,
  quote,
  backslash,
  operator,
  space,
  other,
  class,
  operator_lexeme,
  string_token,
  Mode,
  between,
  in_word,
  in_string,
  in_escape,
  lex_byte,
  lex,
  Place,
  fresh,
  after_value,
  after_comma,
  after_key,
  begins_colon,
  may_begin,
  may_close,
  if_allowed,
  place_token,
  punctuate,
  tokens,
}
use Rattle.ps_spelling_laws.proofs.Strings.{beside, content-utf8}
use Rattle.ps_spelling_laws.proofs.When.{When}

-- keys and strings are UTF-8
abbrev pub IsText : Token → Type 0
IsText begin_object = ⊤
IsText end_object = ⊤
IsText begin_array = ⊤
IsText end_array = ⊤
IsText (key s) = IsUtf8 s
IsText (string s) = IsUtf8 s
IsText (number s) = ⊤
IsText (boolean b) = ⊤
IsText null = ⊤
IsText bad = ⊤

abbrev pub AreTexts : List Token → Type 0
AreTexts [] = ⊤
AreTexts (t ∷ ts) = IsText t × AreTexts ts

abbrev IsLexeme : Lexeme → Type 0
IsLexeme (token t) = IsText t
IsLexeme comma = ⊤
IsLexeme colon = ⊤

abbrev AreLexemes : List Lexeme → Type 0
AreLexemes [] = ⊤
AreLexemes (l ∷ ls) = IsLexeme l × AreLexemes ls

-- ---- lexemes

either-text : (b : Bool) (t u : Token) → IsText t → IsText u → IsText (cond b t u)
either-text true t u h k = h
either-text false t u h k = k

number-text : (text : List ℕ) (o : Option (List ℕ)) → IsText (number_before text o)
number-text text None = tt
number-text text (Some rest) = either-text (ends_word rest) (number (take (length text - length rest) text)) bad tt tt

literal-text : (name : List ℕ) (t : Token) (text : List ℕ) → IsText t → IsText (literal name t text)
literal-text name t text h = either-text (starts_with nat_eq text name && ends_word (drop (length name) text)) t bad h tt

four-text : (a b c : Bool) (x y z w : Token) → IsText x → IsText y → IsText z → IsText w → IsText (cond a x (cond b y (cond c z w)))
four-text true b c x y z w hx hy hz hw = hx
four-text false true c x y z w hx hy hz hw = hy
four-text false false true x y z w hx hy hz hw = hz
four-text false false false x y z w hx hy hz hw = hw

word-text : (text : List ℕ) → IsText (word text)
unfolding word
word-text text =
    four-text (head text == ascii.lower_t) (head text == ascii.lower_f) (head text == ascii.lower_n) (literal ascii.true_text (boolean true) text) (literal ascii.false_text (boolean false) text)
    (literal ascii.null_text null text) (number_before text (after_number text))
    (literal-text ascii.true_text (boolean true) text tt) (literal-text ascii.false_text (boolean false) text tt) (literal-text ascii.null_text null text tt) (number-text text (after_number text))

six-lexemes : (a b c d e : Bool) → IsLexeme (cond a (token begin_object) (cond b (token end_object) (cond c (token begin_array) (cond d (token end_array) (cond e comma colon)))))
six-lexemes true b c d e = tt
six-lexemes false true c d e = tt
six-lexemes false false true d e = tt
six-lexemes false false false true e = tt
six-lexemes false false false false true = tt
six-lexemes false false false false false = tt

operator-text : (x : ℕ) → IsLexeme (operator_lexeme x)
operator-text x = six-lexemes (x == ascii.open_brace) (x == ascii.close_brace) (x == ascii.open_bracket) (x == ascii.close_bracket) (x == ascii.comma)

string-text : (o : Option (List ℕ)) → When IsUtf8 o → IsText (string_token o)
string-text None h = tt
string-text (Some s) h = h

no-quote : (b o s : Bool) → cond b backslash (cond o operator (cond s space other)) ≡ quote → ⊥
no-quote true o s e = absurd (cc e)
no-quote false true s e = absurd (cc e)
no-quote false false true e = absurd (cc e)
no-quote false false false e = absurd (cc e)

quote-is : (x : ℕ) → class x ≡ quote → x ≡ 34
quote-is x e = by (x == 34) refl e
  where
    by : (b : Bool) → (x == 34) ≡ b → cond b quote (cond (x == 92) backslash (cond (is_operator x) operator (cond (is_space x) space other))) ≡ quote → x ≡ 34
    by true h e = eqb-true x 34 h
    by false h e = absurd (no-quote (x == 92) (is_operator x) (is_space x) e)

byte-texts : (m : Mode) (c : Class) (x : ℕ) (xs : List ℕ) (k : Mode → List Lexeme) → ((m : Mode) → AreLexemes (k m)) → (c ≡ quote → IsText (string_token (content plain xs)))
    → AreLexemes (lex_byte m c x xs k)
byte-texts between quote x xs k h q = (q refl, h in_string)
byte-texts between backslash x xs k h q = (tt, h in_word)
byte-texts between operator x xs k h q = (operator-text x, h between)
byte-texts between space x xs k h q = h between
byte-texts between other x xs k h q = (word-text (x ∷ xs), h in_word)
byte-texts in_word quote x xs k h q = h in_word
byte-texts in_word backslash x xs k h q = h in_word
byte-texts in_word operator x xs k h q = (operator-text x, h between)
byte-texts in_word space x xs k h q = h between
byte-texts in_word other x xs k h q = h in_word
byte-texts in_string quote x xs k h q = h between
byte-texts in_string backslash x xs k h q = h in_escape
byte-texts in_string operator x xs k h q = h in_string
byte-texts in_string space x xs k h q = h in_string
byte-texts in_string other x xs k h q = h in_string
byte-texts in_escape c x xs k h q = h in_string

lex-texts : (m : Mode) (front text : List ℕ) → IsUtf8 (front ++ text) → AreLexemes (lex m text)
unfolding lex
lex-texts m front [] u = tt
lex-texts m front (x ∷ text) u =
    byte-texts m (class x) x text (λ next. lex next text) (λ next. lex-texts next (front ++ x ∷ []) text (subst IsUtf8 (sym (append_assoc front (x ∷ []) text)) u))
    (λ q. string-text (content plain text) (content-utf8 plain [] text (beside front x text (omega (arith, quote-is x q)) u).after))

-- ---- commas and colons

allowed-texts : (b : Bool) (t : Token) (k : Place → List Token) (next : Place) → IsText t → ((p : Place) → AreTexts (k p)) → AreTexts (if_allowed b t k next)
allowed-texts true t k next h g = (h, g next)
allowed-texts false t k next h g = (tt, tt)

token-texts : (p : Place) (t : Token) (b : Bool) (k : Place → List Token) → IsText t → ((p : Place) → AreTexts (k p)) → AreTexts (place_token p t b k)
token-texts p begin_object b k h g = allowed-texts (may_begin p) begin_object k fresh tt g
token-texts p end_object b k h g = allowed-texts (may_close p) end_object k after_value tt g
token-texts p begin_array b k h g = allowed-texts (may_begin p) begin_array k fresh tt g
token-texts p end_array b k h g = allowed-texts (may_close p) end_array k after_value tt g
token-texts p (key s) b k h g = (tt, tt)
token-texts p (string s) true k h g = allowed-texts (may_begin p) (key s) k after_key h g
token-texts p (string s) false k h g = allowed-texts (may_begin p) (string s) k after_value h g
token-texts p (number s) b k h g = allowed-texts (may_begin p) (number s) k after_value tt g
token-texts p (boolean c) b k h g = allowed-texts (may_begin p) (boolean c) k after_value tt g
token-texts p null b k h g = allowed-texts (may_begin p) null k after_value tt g
token-texts p bad b k h g = (tt, tt)

punctuate-texts : (p : Place) (ls : List Lexeme) → AreLexemes ls → AreTexts (punctuate p ls)
unfolding punctuate
punctuate-texts fresh [] h = tt
punctuate-texts after_value [] h = tt
punctuate-texts after_comma [] h = (tt, tt)
punctuate-texts after_key [] h = (tt, tt)
punctuate-texts fresh (token t ∷ ls) h = token-texts fresh t (begins_colon ls) (λ next. punctuate next ls) h.0 (λ next. punctuate-texts next ls h.1)
punctuate-texts after_value (token t ∷ ls) h = token-texts after_value t (begins_colon ls) (λ next. punctuate next ls) h.0 (λ next. punctuate-texts next ls h.1)
punctuate-texts after_comma (token t ∷ ls) h = token-texts after_comma t (begins_colon ls) (λ next. punctuate next ls) h.0 (λ next. punctuate-texts next ls h.1)
punctuate-texts after_key (token t ∷ ls) h = token-texts after_key t (begins_colon ls) (λ next. punctuate next ls) h.0 (λ next. punctuate-texts next ls h.1)
punctuate-texts fresh (comma ∷ ls) h = (tt, tt)
punctuate-texts after_value (comma ∷ ls) h = punctuate-texts after_comma ls h.1
punctuate-texts after_comma (comma ∷ ls) h = (tt, tt)
punctuate-texts after_key (comma ∷ ls) h = (tt, tt)
punctuate-texts fresh (colon ∷ ls) h = (tt, tt)
punctuate-texts after_value (colon ∷ ls) h = (tt, tt)
punctuate-texts after_comma (colon ∷ ls) h = (tt, tt)
punctuate-texts after_key (colon ∷ ls) h = punctuate-texts fresh ls h.1

pub tokens-texts : (text : List ℕ) → IsUtf8 text → AreTexts (tokens text)
tokens-texts text u = punctuate-texts fresh (lex between text) (lex-texts between [] text u)
