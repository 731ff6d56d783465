-- Parts of a list that are worked one by one give what the whole gives.
use Rattle.std.proofs.Common.{◌≡◌, ◌<◌, ℕ, zero, suc, ◌+◌, false, List, [], ◌∷◌, ◌++◌, length, take, drop, Option, refl, sym, ap, ap₂, subst, ◌∙◌, arith, true≢false}
use Rattle.std.specs.Prelude.{◌≤◌, ◌*◌, ◌/◌, ◌%◌, min, IfOk, flat_map, is_err, option_map, slice_index_or, Ok, Err}
use Rattle.std.specs.List.{AllByRecursion}
use Rattle.std.specs.Fork.{slice_chunk}
use Rattle.std.proofs.lemmas.List.{length-drop, take-append-drop}
use Rattle.std.proofs.lemmas.Grind.{div_ceil_times}
use Rattle.std.proofs.lemmas.List.Elements.{filter_map-append}
use Rattle.ps_types.specs.Tree.{Tree}
use Rattle.ps_types.specs.declared.jid.Jid.{Jid}
use Rattle.ps_fanout.specs.Parts.{Joins, Part, part_told}
use Rattle.ps_fanout.specs.Told.{given_to}

drop-none : {X : Type 0} (a : ℕ) → drop {A = X} a [] ≡ []
drop-none zero = refl
drop-none (suc a) = refl

drop-on : {X : Type 0} (a b c : ℕ) (xs : List X) → c ≡ b + a → drop a (drop b xs) ≡ drop c xs
drop-on a zero c xs e = ap (λ (k : ℕ). drop k xs) (let same : a ≡ c = omega (arith, e) in same)
drop-on a (suc b) zero xs e = absurd (let no : zero ≡ suc b + a = e in omega (arith, no))
drop-on a (suc b) (suc c) [] e = drop-none a
drop-on a (suc b) (suc c) (x ∷ xs) e = drop-on a b c xs (let same : c ≡ b + a = omega (arith, e) in same)

at-front : {X : Type 0} (p d : X) (ps : List X) → slice_index_or (p ∷ ps) 0 d ≡ p
at-front p d ps = refl

at-next : {X : Type 0} (p d : X) (ps : List X) (n : ℕ) → slice_index_or (p ∷ ps) (suc n) d ≡ slice_index_or ps n d
at-next p d ps n = refl

none-of : {X : Type 0} (xs : List X) → length xs ≤ 0 → xs ≡ []
none-of [] le = refl
none-of (x ∷ xs) le = absurd (let no : suc (length xs) ≤ 0 = le in omega (arith, no))

module _ (gives : Jid → Option Tree) (size : ℕ) where
  -- parts that give what these pieces of the list do, of which there are enough, give what the list does
  pub pieces : (parts : List Part) (xs : List Jid) → length xs ≤ length parts * size
      → ((n : ℕ) (d : Part) → n < length parts → part_told (slice_index_or parts n d) ≡ given_to gives (slice_chunk xs size n)) → flat_map part_told parts ≡ given_to gives xs
  pieces [] xs le each = ap (given_to gives) (sym (none-of xs (let z : length xs ≤ 0 = omega (arith, le) in z)))
  pieces (p ∷ parts) xs le each =
      let front : drop (0 * size) xs ≡ xs = ap (λ (k : ℕ). drop k xs) (let z : 0 * size ≡ 0 = omega arith in z) in
      let first : part_told p ≡ given_to gives (take size xs) = ap part_told (sym (at-front p p parts)) ∙ each 0 p (omega arith) ∙ ap (λ (l : List Jid). given_to gives (take size l)) front in
      let fewer : length (drop size xs) ≤ length parts * size = (let cut = length-drop size xs in let more : suc (length parts) * size ≡ size + length parts * size = omega arith in omega
      (arith, le, cut, more)) in
      let rest = pieces parts (drop size xs) fewer
      (λ n d less. ap part_told (sym (at-next p d parts n)) ∙ each (suc n) d (omega (arith, less))
      ∙ sym (ap (λ (l : List Jid). given_to gives (take size l)) (drop-on (n * size) size (suc n * size) xs (let e : suc n * size ≡ size + n * size = omega arith in e)))) in
      ap₂ (λ (a b : List (Jid × Tree)). a ++ b) first rest
      ∙ sym (filter_map-append (λ (who : Jid). option_map (λ t. (who, t)) (gives who)) (take size xs) (drop size xs))
      ∙ ap (given_to gives) (take-append-drop size xs)

made-at : (P : Part → Type 0) (parts : List Part) (n : ℕ) (d : Part) → AllByRecursion P parts → n < length parts → P (slice_index_or parts n d)
made-at P [] n d made less = absurd (omega (arith, less))
made-at P (p ∷ parts) zero d made less = made.0
made-at P (p ∷ parts) (suc n) d made less = made-at P parts n d made.1 (omega (arith, less))

told-of : (part : Part) (told : List (Jid × Tree)) → is_err part ≡ false → IfOk part (λ v. v.items ≡ told) → part_told part ≡ told
told-of (Ok v) told made is = is
told-of (Err why) told made is = absurd (true≢false made)

-- as many parts as the list has, of which none was refused, joined
pub joined-pieces : (gives : Jid → Option Tree) (size : ℕ) (parts : List Part) (xs : List Jid) (told : List (Jid × Tree)) → 0 < size → length parts ≡ length xs / size + min 1 (length xs % size)
    → ((n : ℕ) (d : Part) → n < length parts → IfOk (slice_index_or parts n d) (λ v. v.items ≡ given_to gives (slice_chunk xs size n))) → Joins parts told → told ≡ given_to gives xs
joined-pieces gives size parts xs told more long each is =
    is.joined
    ∙ pieces gives size parts xs (subst (λ (k : ℕ). length xs ≤ k * size) (sym long) (div_ceil_times (length xs) size more).0)
    (λ n d less. told-of (slice_index_or parts n d) (given_to gives (slice_chunk xs size n)) (made-at (λ (p : Part). is_err p ≡ false) parts n d is.made less) (each n d less))
