-- Trees in a map, each at the text of its address and its turn, stand as they do when each is put where its address belongs.
use Rattle.std.proofs.Common.{◌≡◌, ℕ, ◌+◌, ◌<◌, ◌≤◌, List, [], ◌∷◌, ◌++◌, length, refl, sym, ap, ap₂, subst, ◌∙◌, arith}
use Rattle.std.specs.List.{AllByRecursion as Each}
use Rattle.std.specs.Ordering.{match_ordering, nat_cmp, ordering_then}
use Rattle.std.specs.Cmp.Lexicographic.{slice_cmp}
use Rattle.std.specs.BTreeMap.{insert_entry}
use Rattle.std.specs.Map.{values_of}
use Rattle.std.specs.declared.cmp.Ordering.{Ordering}
use Rattle.std.specs.declared.cmp.Ordering.TheVariants.{Less, Equal, Greater}
use Rattle.std.proofs.lemmas.Cmp.{ranked}
use Rattle.ps_types.specs.Address.{jid_text}
use Rattle.ps_types.specs.Tree.{Tree}
use Rattle.ps_types.specs.declared.jid.Jid.{Jid}
use Rattle.ps_notices.specs.Due.{arranged, put_due}
use Rattle.ps_notices.proofs.Around.{onto}

abbrev cmp : List ℕ × ℕ → List ℕ × ℕ → Ordering
cmp a b = ordering_then (slice_cmp nat_cmp a.0 b.0) (nat_cmp a.1 b.1)

-- each stands at the text of its address, and at no turn below this one
abbrev pub AtPlaces : ℕ → List ((List ℕ × ℕ) × (Jid × Tree)) → Type 0
AtPlaces low es = Each (λ e. (e.0.0 ≡ jid_text e.1.0) × (low ≤ e.0.1)) es

less-by : (a b : ℕ) → a + 1 ≤ b → nat_cmp a b ≡ Less
less-by a b l = at (nat_cmp a b) refl
  where
    at : (o : Ordering) → nat_cmp a b ≡ o → o ≡ Less
    at Less e = refl
    at Equal e = absurd (let q : a ≡ b = ranked a b Equal (sym e) in omega arith)
    at Greater e = absurd (let q : b < a = ranked a b Greater (sym e) in omega arith)

insert-values : (d : Jid × Tree) (turn : ℕ) (es : List ((List ℕ × ℕ) × (Jid × Tree))) → AtPlaces (turn + 1) es → values_of (insert_entry cmp es (jid_text d.0, turn) d) ≡ put_due d (values_of es)
insert-values d turn [] at = refl
insert-values d turn (e ∷ es) at = by (slice_cmp nat_cmp (jid_text d.0) e.0.0) refl (insert-values d turn es at.1)
  where
    texts : (o : Ordering) → slice_cmp nat_cmp (jid_text d.0) e.0.0 ≡ o → slice_cmp nat_cmp (jid_text d.0) (jid_text e.1.0) ≡ o
    texts o h = sym (ap (λ (t : List ℕ). slice_cmp nat_cmp (jid_text d.0) t) at.0.0) ∙ h

    by : (o : Ordering) → slice_cmp nat_cmp (jid_text d.0) e.0.0 ≡ o → values_of (insert_entry cmp es (jid_text d.0, turn) d) ≡ put_due d (values_of es)
        → values_of (match_ordering (ordering_then o (nat_cmp turn e.0.1)) (((jid_text d.0, turn), d) ∷ e ∷ es) ((e.0, d) ∷ es) (e ∷ insert_entry cmp es (jid_text d.0, turn) d)) ≡ put_due d
        (values_of (e ∷ es))
    by Less h more = rw (texts Less h) refl
    by Equal h more = rw (texts Equal h, less-by turn e.0.1 at.0.1) refl
    by Greater h more = rw (texts Greater h) (ap (λ (xs : List (Jid × Tree)). e.1 ∷ xs) more)

at-lower : (low : ℕ) (es : List ((List ℕ × ℕ) × (Jid × Tree))) → AtPlaces (low + 1) es → AtPlaces low es
at-lower low [] at = tt
at-lower low (e ∷ es) at = ((at.0.0, (let l : low + 1 ≤ e.0.1 = at.0.1 in omega arith)), at-lower low es at.1)

insert-places : (d : Jid × Tree) (turn : ℕ) (es : List ((List ℕ × ℕ) × (Jid × Tree))) → AtPlaces (turn + 1) es → AtPlaces turn (insert_entry cmp es (jid_text d.0, turn) d)
insert-places d turn [] at = ((refl, omega arith), tt)
insert-places d turn (e ∷ es) at = by (slice_cmp nat_cmp (jid_text d.0) e.0.0) (nat_cmp turn e.0.1) (less-by turn e.0.1 at.0.1) (insert-places d turn es at.1) (at-lower turn (e ∷ es) at)
  where
    by : (o p : Ordering) → p ≡ Less → AtPlaces turn (insert_entry cmp es (jid_text d.0, turn) d) → AtPlaces turn (e ∷ es)
        → AtPlaces turn (match_ordering (ordering_then o p) (((jid_text d.0, turn), d) ∷ e ∷ es) ((e.0, d) ∷ es) (e ∷ insert_entry cmp es (jid_text d.0, turn) d))
    by Less p h more low = ((refl, omega arith), low)
    by Equal Less h more low = ((refl, omega arith), low)
    by Equal Equal h more low = absurd (cc)
    by Equal Greater h more low = absurd (cc)
    by Greater p h more low = (low.0, more)

onto-none : (xs : List (Jid × Tree)) → onto xs [] ≡ arranged xs
onto-none [] = refl
onto-none (x ∷ xs) = ap (put_due x) (onto-none xs)

onto-last : (xs ys : List (Jid × Tree)) (d : Jid × Tree) → onto (xs ++ d ∷ []) ys ≡ onto xs (put_due d ys)
onto-last [] ys d = refl
onto-last (x ∷ xs) ys d = ap (put_due x) (onto-last xs ys d)

length-put : (d : Jid × Tree) (xs : List (Jid × Tree)) → length (put_due d xs) ≡ length xs + 1
length-put d [] = refl
length-put d (x ∷ xs) = at (slice_cmp nat_cmp (jid_text d.0) (jid_text x.0)) (length-put d xs)
  where
    at : (o : Ordering) → length (put_due d xs) ≡ length xs + 1 → length (match_ordering o (d ∷ x ∷ xs) (d ∷ x ∷ xs) (x ∷ put_due d xs)) ≡ length (x ∷ xs) + 1
    at Less more = omega arith
    at Equal more = omega arith
    at Greater more = omega arith

-- none is lost
pub length-arranged : (xs : List (Jid × Tree)) → length (arranged xs) ≡ length xs
length-arranged [] = refl
length-arranged (x ∷ xs) = let p = length-put x (arranged xs) in let more = length-arranged xs in omega arith

length-last : (xs : List (Jid × Tree)) (d : Jid × Tree) → length (xs ++ d ∷ []) ≡ length xs + 1
length-last [] d = refl
length-last (x ∷ xs) d = let r = length-last xs d in omega arith

-- where the placing stands
pub record Placing (all left : List (Jid × Tree)) (es : List ((List ℕ × ℕ) × (Jid × Tree))) : Type 0 where
  pub order : onto left (values_of es) ≡ arranged all
  pub places : AtPlaces (length left) es

pub placing-begins : (all : List (Jid × Tree)) → Placing all all []
placing-begins all = record { order = onto-none all; places = tt }

-- the last that is left is placed
pub placing-on : (all left rest : List (Jid × Tree)) (es more : List ((List ℕ × ℕ) × (Jid × Tree))) (d : Jid × Tree) (text : List ℕ) (turn : ℕ) → Placing all left es → left ≡ rest ++ d ∷ []
    → text ≡ jid_text d.0 → turn ≡ length rest → more ≡ insert_entry cmp es (text, turn) d → Placing all rest more
placing-on all left rest es more d text turn is split texts turns inserted =
    let at : AtPlaces (length rest + 1) es = subst (λ (n : ℕ). AtPlaces n es) (ap (λ (l : List (Jid × Tree)). length l) split ∙ length-last rest d) is.places in
    let made : more ≡ insert_entry cmp es (jid_text d.0, length rest) d = inserted ∙ ap₂ (λ (t : List ℕ) (n : ℕ). insert_entry cmp es (t, n) d) texts turns in
    record {
      order = ap (λ (xs : List ((List ℕ × ℕ) × (Jid × Tree))). onto rest (values_of xs)) made ∙ ap (onto rest) (insert-values d (length rest) es at) ∙ sym (onto-last rest (values_of es) d)
          ∙ sym (ap (λ (xs : List (Jid × Tree)). onto xs (values_of es)) split) ∙ is.order;
      places = subst (λ (xs : List ((List ℕ × ℕ) × (Jid × Tree))). AtPlaces (length rest) xs) (sym made) (insert-places d (length rest) es at);
    }
