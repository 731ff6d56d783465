-- What is parsed of tokens whose texts are UTF-8 has such texts.
use Rattle.std.proofs.Common.{◌≡◌, ℕ, zero, suc, List, [], ◌∷◌, length, Option, Some, None, IsUtf8, option_and_then, refl, subst}
use Rattle.std.specs.Prelude.{⊤}
use Rattle.json.specs.Token.{Token}
use Rattle.json.specs.Json.{
  Json,
  null,
  boolean,
  number,
  string,
  array,
  object,
  Items,
  no_items,
  item,
  Members,
  no_members,
  member,
  Parse,
  parse_map,
  after_end_array,
  read_key,
  items_step,
  members_step,
  items,
  members,
  value_with,
  value,
  if_last,
}
use Rattle.json.proofs.Grammar.{closed_array, read_key_is}
use Rattle.ps_spelling_laws.proofs.Lexemes.{AreTexts}
use Rattle.ps_spelling_laws.proofs.When.{When}

abbrev mutual
  pub HasTexts : Json → Type 0
  HasTexts null = ⊤
  HasTexts (boolean b) = ⊤
  HasTexts (number s) = ⊤
  HasTexts (string s) = IsUtf8 s
  HasTexts (array js) = ItemsHave js
  HasTexts (object ms) = MembersHave ms

  pub ItemsHave : Items → Type 0
  ItemsHave no_items = ⊤
  ItemsHave (item j js) = HasTexts j × ItemsHave js

  pub MembersHave : Members → Type 0
  MembersHave no_members = ⊤
  MembersHave (member k j ms) = IsUtf8 k × HasTexts j × MembersHave ms

-- what was read, and the tokens behind it
abbrev Parsed : {A : Type 0} → (A → Type 0) → Option (A × List Token) → Type 0
Parsed P r = When (λ q. P q.0 × AreTexts q.1) r

abbrev Parses : {A : Type 0} → (A → Type 0) → Parse A → Type 0
Parses P p = (ts : List Token) → AreTexts ts → Parsed P (p ts)

mapped : {A B : Type 0} (P : A → Type 0) (Q : B → Type 0) (f : A → B) (r : Option (A × List Token)) → ((a : A) → P a → Q (f a)) → Parsed P r → Parsed Q (parse_map f r)
mapped P Q f None g h = tt
mapped P Q f (Some q) g h = (g q.0 h.0, h.1)

then-more : {B : Type 0} (Q : B → Type 0) (f : Json → B → B) (more : Parse B) (o : Option (Json × List Token)) → ((j : Json) (b : B) → HasTexts j → Q b → Q (f j b)) → Parses Q more → Parsed HasTexts o
    → Parsed Q (option_and_then (λ q. parse_map (f q.0) (more q.1)) o)
then-more Q f more None g again h = tt
then-more Q f more (Some q) g again h = mapped Q Q (f q.0) (more q.1) (λ b k. g q.0 b h.0 k) (again q.1 h.1)

item-turn : (p : Parse Json) (more : Parse Items) (ts : List Token) (o : Option (List Token)) → Parses HasTexts p → Parses ItemsHave more → AreTexts ts → after_end_array ts ≡ o
    → Parsed ItemsHave (items_step p more ts o)
item-turn p more ts (Some rest) h again are e = let all : ⊤ × AreTexts rest = subst AreTexts (closed_array ts rest e) are in (tt, all.1)
item-turn p more ts None h again are e = then-more ItemsHave item more (p ts) (λ j js u v. (u, v)) again (h ts are)

items-have : (p : Parse Json) → Parses HasTexts p → (n : ℕ) → Parses ItemsHave (items p n)
unfolding items
items-have p h zero ts are = tt
items-have p h (suc n) ts are = item-turn p (items p n) ts (after_end_array ts) h (items-have p h n) are refl

member-turn : (p : Parse Json) (more : Parse Members) (ts : List Token) (o : Option (Option (List ℕ) × List Token)) → Parses HasTexts p → Parses MembersHave more → AreTexts ts → read_key ts ≡ o
    → Parsed MembersHave (option_and_then (λ q. members_step p more q.0 q.1) o)
member-turn p more ts None h again are e = tt
member-turn p more ts (Some (None, rest)) h again are e = let all : ⊤ × AreTexts rest = subst AreTexts (read_key_is ts None rest e) are in (tt, all.1)
member-turn p more ts (Some (Some k, rest)) h again are e =
    let all : IsUtf8 k × AreTexts rest = subst AreTexts (read_key_is ts (Some k) rest e) are in
    then-more MembersHave (member k) more (p rest) (λ j ms u v. (all.0, u, v)) again (h rest all.1)

members-have : (p : Parse Json) → Parses HasTexts p → (n : ℕ) → Parses MembersHave (members p n)
unfolding members
members-have p h zero ts are = tt
members-have p h (suc n) ts are = member-turn p (members p n) ts (read_key ts) h (members-have p h n) are refl

with-texts : (a : Parse Items) (o : Parse Members) → Parses ItemsHave a → Parses MembersHave o → Parses HasTexts (value_with a o)
with-texts a o p q [] are = tt
with-texts a o p q (Token.begin_object ∷ ts) are = mapped MembersHave HasTexts object (o ts) (λ ms h. h) (q ts are.1)
with-texts a o p q (Token.end_object ∷ ts) are = tt
with-texts a o p q (Token.begin_array ∷ ts) are = mapped ItemsHave HasTexts array (a ts) (λ js h. h) (p ts are.1)
with-texts a o p q (Token.end_array ∷ ts) are = tt
with-texts a o p q (Token.key s ∷ ts) are = tt
with-texts a o p q (Token.string s ∷ ts) are = (are.0, are.1)
with-texts a o p q (Token.number s ∷ ts) are = (tt, are.1)
with-texts a o p q (Token.boolean b ∷ ts) are = (tt, are.1)
with-texts a o p q (Token.null ∷ ts) are = (tt, are.1)
with-texts a o p q (Token.bad ∷ ts) are = tt

pub value-texts : (depth : ℕ) → Parses HasTexts (value depth)
unfolding value
value-texts zero = with-texts (λ ts. None) (λ ts. None) (λ ts are. tt) (λ ts are. tt)
value-texts (suc d) =
    with-texts (λ ts. items (value d) (length ts) ts) (λ ts. members (value d) (length ts) ts) (λ ts. items-have (value d) (value-texts d) (length ts) ts)
    (λ ts. members-have (value d) (value-texts d) (length ts) ts)

pub last-texts : (j : Json) (ts : List Token) → HasTexts j → When HasTexts (if_last j ts)
last-texts j [] h = h
last-texts j (t ∷ ts) h = tt
