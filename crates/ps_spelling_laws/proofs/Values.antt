-- A value that is read of UTF-8 has texts of UTF-8, and the keys of each object rise.
use Rattle.std.proofs.Common.{◌≡◌, ℕ, List, Option, Some, None, IsUtf8, option_map, option_and_then, refl, ap, ◌∙◌}
use Rattle.std.specs.Prelude.{⊤}
use Rattle.std.specs.Ordering.{nat_cmp, match_ordering, ordering_reverse}
use Rattle.std.specs.Cmp.Lexicographic.{slice_cmp, nat_list_cmp_total}
use Rattle.std.specs.declared.cmp.Ordering.{Ordering}
use Rattle.std.specs.declared.cmp.Ordering.TheVariants.{Less, Equal, Greater}
use Rattle.json.specs.Json as json
use Rattle.json.specs.Lex.{tokens}
use Rattle.serde_json.specs.Data.{Num, Data, null, boolean, number, string, array, object, Items, no_items, item, Members, no_members, member, put}
use Rattle.serde_json.specs.Read.{read, number_of, of_json, of_items, of_members, max_depth}
use Rattle.ps_spelling_laws.proofs.Lexemes.{AreTexts, tokens-texts}
use Rattle.ps_spelling_laws.proofs.Parsing.{HasTexts, ItemsHave, MembersHave, value-texts, last-texts}
use Rattle.ps_spelling_laws.proofs.When.{When, then-when, map-when}

-- the key is below each key of the members
abbrev pub AllAfter : List ℕ → Members → Type 0
AllAfter k no_members = ⊤
AllAfter k (member l e ms) = (slice_cmp nat_cmp k l ≡ Less) × AllAfter k ms

abbrev mutual
  pub IsSound : Data → Type 0
  IsSound null = ⊤
  IsSound (boolean b) = ⊤
  IsSound (number n) = ⊤
  IsSound (string s) = IsUtf8 s
  IsSound (array ds) = AreSound ds
  IsSound (object ms) = HaveSound ms

  pub AreSound : Items → Type 0
  AreSound no_items = ⊤
  AreSound (item d ds) = IsSound d × AreSound ds

  pub HaveSound : Members → Type 0
  HaveSound no_members = ⊤
  HaveSound (member k d ms) = IsUtf8 k × AllAfter k ms × IsSound d × HaveSound ms

-- ---- a member that is put

after-at : (low k l : List ℕ) (d e : Data) (ms : Members) (o : Ordering) → slice_cmp nat_cmp low k ≡ Less → AllAfter low (member l e ms) → AllAfter low (put k d ms)
    → AllAfter low (match_ordering o (member k d (member l e ms)) (member l d ms) (member l e (put k d ms)))
after-at low k l d e ms Less h a later = (h, a)
after-at low k l d e ms Equal h a later = (a.0, a.1)
after-at low k l d e ms Greater h a later = (a.0, later)

after-put : (low k : List ℕ) (d : Data) (ms : Members) → slice_cmp nat_cmp low k ≡ Less → AllAfter low ms → AllAfter low (put k d ms)
after-put low k d no_members h a = (h, tt)
after-put low k d (member l e ms) h a = after-at low k l d e ms (slice_cmp nat_cmp k l) h a (after-put low k d ms h a.1)

before-all : (k l : List ℕ) (ms : Members) → slice_cmp nat_cmp k l ≡ Less → AllAfter l ms → AllAfter k ms
before-all k l no_members e a = tt
before-all k l (member m d ms) e a = (nat_list_cmp_total.trans k l m e a.0, before-all k l ms e a.1)

sound-at : (k l : List ℕ) (d e : Data) (ms : Members) (o : Ordering) → slice_cmp nat_cmp k l ≡ o → IsUtf8 k → IsSound d → HaveSound (member l e ms) → HaveSound (put k d ms)
    → HaveSound (match_ordering o (member k d (member l e ms)) (member l d ms) (member l e (put k d ms)))
sound-at k l d e ms Less c u s h later = (u, (c, before-all k l ms c h.1), s, h)
sound-at k l d e ms Equal c u s h later = (h.0, h.1, s, h.3)
sound-at k l d e ms Greater c u s h later = (h.0, after-put l k d ms (nat_list_cmp_total.antisymm l k ∙ ap ordering_reverse c) h.1, h.2, later)

sound-put : (k : List ℕ) (d : Data) (ms : Members) → IsUtf8 k → IsSound d → HaveSound ms → HaveSound (put k d ms)
sound-put k d no_members u s h = (u, tt, s, tt)
sound-put k d (member l e ms) u s h = sound-at k l d e ms (slice_cmp nat_cmp k l) refl u s h (sound-put k d ms u s h.3)

-- ---- the value of what was parsed

any-number : (o : Option Num) → When (λ n. ⊤) o
any-number None = tt
any-number (Some n) = tt

mutual
  json-sound : (j : json.Json) → HasTexts j → When IsSound (of_json j)
  json-sound json.null h = tt
  json-sound (json.boolean b) h = tt
  json-sound (json.number s) h = map-when (λ n. ⊤) IsSound number (number_of s) (any-number (number_of s)) (λ n k. tt)
  json-sound (json.string s) h = h
  json-sound (json.array js) h = map-when AreSound IsSound array (of_items js) (items-sound js h) (λ ds k. k)
  json-sound (json.object ms) h = map-when HaveSound IsSound object (of_members ms no_members) (members-sound ms no_members h tt) (λ ns k. k)

  items-sound : (js : json.Items) → ItemsHave js → When AreSound (of_items js)
  items-sound json.no_items h = tt
  items-sound (json.item j js) h =
      then-when IsSound AreSound (λ d. option_map (item d) (of_items js)) (of_json j) (json-sound j h.0)
      (λ d s. map-when AreSound AreSound (item d) (of_items js) (items-sound js h.1) (λ ds k. (s, k)))

  members-sound : (ms : json.Members) (found : Members) → MembersHave ms → HaveSound found → When HaveSound (of_members ms found)
  members-sound json.no_members found h f = f
  members-sound (json.member k j ms) found h f =
      then-when IsSound HaveSound (λ d. of_members ms (put k d found)) (of_json j) (json-sound j h.1) (λ d s. members-sound ms (put k d found) h.2 (sound-put k d found h.0 s f))

-- what is read of UTF-8
pub read-sound : (text : List ℕ) → IsUtf8 text → When IsSound (read text)
read-sound text u =
    then-when HasTexts IsSound of_json (option_and_then (λ p. json.if_last p.0 p.1) (json.value max_depth (tokens text)))
    (then-when (λ p. HasTexts p.0 × AreTexts p.1) HasTexts (λ p. json.if_last p.0 p.1) (json.value max_depth (tokens text)) (value-texts max_depth (tokens text) (tokens-texts text u))
    (λ p h. last-texts p.0 p.1 h.0))
    json-sound
