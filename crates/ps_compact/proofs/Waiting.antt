-- The notices that wait, moved one by one to the entries.
use Rattle.std.proofs.Common.{
  ◌≡◌,
  ℕ,
  zero,
  suc,
  ◌+◌,
  ◌<◌,
  ◌≤◌,
  Bool,
  true,
  false,
  cond,
  List,
  [],
  ◌∷◌,
  ◌++◌,
  map,
  take,
  drop,
  filter,
  length,
  get_or,
  Option,
  Some,
  None,
  refl,
  sym,
  ap,
  ◌∙◌,
  subst,
  arith,
  append_assoc,
}
use Rattle.std.specs.Prelude.{IfSome, find, nat_lt, option_to_list, slice_get}
use Rattle.std.specs.List.{AllByRecursion as Each}
use Rattle.std.proofs.lemmas.Bool.{lt-ltb}
use Rattle.std.proofs.lemmas.List.{drop_more, map-append, take_all, take_more}
use Rattle.std.proofs.lemmas.List.Concat.{flat_map-append}
use Rattle.std.proofs.lemmas.List.{append-nil}
use Rattle.ps_base.specs.Rows.{without_first}
use Rattle.ps_types.specs.Same.{same_bare}
use Rattle.ps_types.specs.declared.entry.Entry.{Entry}
use Rattle.ps_types.specs.declared.entry.Notice.{Notice}
use Rattle.ps_types.specs.declared.jid.Jid.{Jid}
use Rattle.ps_book_laws.specs.Keys.{AreApart}
use Rattle.ps_outbox.specs.Boxes.{is_to, queue, shown}
use Rattle.ps_outbox.proofs.Fifo.{front_goes, others_stay}
use Rattle.ps_compact_export.specs.Written.{written}
use Rattle.ps_rows.proofs.Sought.{bare-back}
use Rattle.ps_compact.specs.Rows.{AreReady, AreReadyAt, IsReady, notice_entries, notice_row, notices_of}

joined : (xs ys : List Notice) → notice_entries xs ++ notice_entries ys ≡ notice_entries (xs ++ ys)
joined xs ys = sym (map-append written (map notice_row xs) (map notice_row ys)) ∙ ap (map written) (sym (map-append notice_row xs ys))

-- ---- the first notice of an address

pub shown-some : (count : ℕ) (o : Option Notice) (n : Notice) → Some n ≡ shown count o → o ≡ Some n
shown-some count None n e = absurd (cc e)
shown-some count (Some m) n e = by (nat_lt m.place count) e
  where
    by : (b : Bool) → Some n ≡ cond b (Some m) None → Some m ≡ Some n
    by true e = sym e
    by false e = absurd (cc e)

pub shown-none : (count : ℕ) (o : Option Notice) → IfSome o (IsReady count) → None ≡ shown count o → o ≡ None
shown-none count None ready e = refl
shown-none count (Some m) ready e =
    let below : nat_lt m.place count ≡ true = lt-ltb m.place count ready.place in
    let shows : None ≡ Some m = e ∙ ap (λ (b : Bool). cond b (Some m) None) below in
    absurd (cc shows)

find-first : (p : Notice → Bool) (ns : List Notice) → find p ns ≡ slice_get (filter p ns) 0
find-first p [] = refl
find-first p (n ∷ ns) = by (p n) (find-first p ns)
  where
    by : (b : Bool) → find p ns ≡ slice_get (filter p ns) 0 → cond b (Some n) (find p ns) ≡ slice_get (cond b (n ∷ filter p ns) (filter p ns)) 0
    by true e = refl
    by false e = e

-- ---- the notices of an address

-- so many of them stand among the entries, and the notices of all others wait as before
pub record AreMoved (who : Jid) (at : ℕ) (old now : List Notice) (front entries : List Entry) : Type 0 where
  pub moved : entries ≡ front ++ notice_entries (take at (queue who old))
  pub left : queue who now ≡ drop at (queue who old)
  pub others : (other : Jid) → same_bare other who ≡ false → queue other now ≡ queue other old

pub none-moved : (who : Jid) (old : List Notice) (front : List Entry) → AreMoved who 0 old old front front
none-moved who old front = record { moved = sym (append-nil front); left = refl; others = λ other far. refl }

next-taken : (ns : List Notice) (at : ℕ) → take (suc at) ns ≡ take at ns ++ option_to_list (slice_get (drop at ns) 0)
next-taken [] zero = refl
next-taken [] (suc at) = refl
next-taken (n ∷ ns) zero = refl
next-taken (n ∷ ns) (suc at) = ap (λ (ms : List Notice). n ∷ ms) (next-taken ns at)

next-left : (ns : List Notice) (at : ℕ) → drop 1 (drop at ns) ≡ drop (suc at) ns
next-left [] zero = refl
next-left [] (suc at) = refl
next-left (n ∷ ns) zero = refl
next-left (n ∷ ns) (suc at) = next-left ns at

far-back : (a b : Jid) (t : Bool) → same_bare b a ≡ t → same_bare a b ≡ false → t ≡ false
far-back a b true e far = let back = bare-back b a e in absurd (cc (back, far))
far-back a b false e far = refl

pub moved-more : (who : Jid) (at : ℕ) (old now after : List Notice) (front entries more : List Entry) → AreMoved who at old now front entries
    → more ≡ entries ++ notice_entries (option_to_list (find (is_to who) now)) → after ≡ without_first (is_to who) now
    → AreMoved who (at + 1) old after front more
moved-more who at old now after front entries more so_far added gone =
    let q = queue who old in
    let next : suc at ≡ at + 1 = omega arith in
    let one : find (is_to who) now ≡ slice_get (drop at q) 0 = find-first (is_to who) now ∙ ap (λ (ns : List Notice). slice_get ns 0) so_far.left in
    subst (λ (n : ℕ). AreMoved who n old after front more) next (record {
      moved =
          added ∙ ap (λ (es : List Entry). es ++ notice_entries (option_to_list (find (is_to who) now))) so_far.moved
          ∙ append_assoc front (notice_entries (take at q)) (notice_entries (option_to_list (find (is_to who) now)))
          ∙ ap (λ (es : List Entry). front ++ es)
          (ap (λ (o : Option Notice). notice_entries (take at q) ++ notice_entries (option_to_list o)) one
          ∙ joined (take at q) (option_to_list (slice_get (drop at q) 0)) ∙ ap notice_entries (sym (next-taken q at)));
      left = ap (queue who) gone ∙ front_goes who now ∙ ap (drop 1) so_far.left ∙ next-left q at;
      others = λ other far. ap (queue other) gone ∙ others_stay who other now (far-back other who (same_bare who other) refl far) ∙ so_far.others other far;
    })

pub moved-all : (who : Jid) (at : ℕ) (old now : List Notice) (front entries : List Entry) → length (queue who old) ≤ at → AreMoved who at old now front entries
    → entries ≡ front ++ notice_entries (queue who old)
moved-all who at old now front entries all is = is.moved ∙ ap (λ (ns : List Notice). front ++ notice_entries ns) (take_all at (queue who old) all)

-- the first of those that are left
pub first-ready : (count : ℕ) (who : Jid) (at : ℕ) (old now : List Notice) → AreReady count (queue who old) → queue who now ≡ drop at (queue who old) → IfSome (find (is_to who) now) (IsReady count)
first-ready count who at old now ready left = subst (λ (o : Option Notice). IfSome o (IsReady count)) (sym (find-first (is_to who) now ∙ ap (λ (ns : List Notice). slice_get ns 0) left))
    (at-drop (queue who old) at ready)
  where
    at-drop : (ns : List Notice) (at : ℕ) → AreReady count ns → IfSome (slice_get (drop at ns) 0) (IsReady count)
    at-drop [] zero are = tt
    at-drop [] (suc at) are = tt
    at-drop (n ∷ ns) zero are = are.0
    at-drop (n ∷ ns) (suc at) are = at-drop ns at are.1

-- ---- the notices of all addresses

-- those of so many addresses stand among the entries, and the notices of the rest wait as before
pub record AreEmptied (whos : List Jid) (i : ℕ) (old now : List Notice) (front entries : List Entry) : Type 0 where
  pub moved : entries ≡ front ++ notice_entries (notices_of old (take i whos))
  pub rest : Each (λ a. queue a now ≡ queue a old) (drop i whos)

all-same : (waiting : List Notice) (whos : List Jid) → Each (λ a. queue a waiting ≡ queue a waiting) whos
all-same waiting [] = tt
all-same waiting (who ∷ whos) = (refl, all-same waiting whos)

pub none-emptied : (whos : List Jid) (old : List Notice) (front : List Entry) → AreEmptied whos 0 old old front front
none-emptied whos old front = record { moved = sym (append-nil front); rest = all-same old whos }

left-of : (whos : List Jid) (i : ℕ) (who : Jid) → i < length whos → who ≡ get_or whos i who → drop i whos ≡ who ∷ drop (i + 1) whos
left-of whos i who within is = drop_more whos i who within ∙ ap (λ (j : Jid). j ∷ drop (i + 1) whos) (sym is)

apart-left : (i : ℕ) (whos : List Jid) → AreApart same_bare whos → AreApart same_bare (drop i whos)
apart-left zero whos apart = apart
apart-left (suc i) [] apart = tt
apart-left (suc i) (who ∷ whos) apart = apart-left i whos apart.1

each-left : (P : Jid → Type 0) (i : ℕ) (whos : List Jid) → Each P whos → Each P (drop i whos)
each-left P zero whos ps = ps
each-left P (suc i) [] ps = tt
each-left P (suc i) (who ∷ whos) ps = each-left P i whos ps.1

stay-same : (who : Jid) (old now after : List Notice) (whos : List Jid) → ((other : Jid) → same_bare other who ≡ false → queue other after ≡ queue other now)
    → Each (λ y. same_bare y who ≡ false) whos → Each (λ a. queue a now ≡ queue a old) whos
    → Each (λ a. queue a after ≡ queue a old) whos
stay-same who old now after [] others far same = tt
stay-same who old now after (x ∷ whos) others far same = (others x far.0 ∙ same.0, stay-same who old now after whos others far.1 same.1)

module _ (whos : List Jid) (i : ℕ) (who : Jid) (old now : List Notice) (front entries : List Entry) (within : i < length whos) (is : who ≡ get_or whos i who)
    (so_far : AreEmptied whos i old now front entries) where
  -- its own notices wait as before
  pub own-same : queue who now ≡ queue who old
  own-same = (subst (Each (λ a. queue a now ≡ queue a old)) (left-of whos i who within is) so_far.rest).0

  pub own-ready : (count : ℕ) → AreReadyAt count old whos → AreReady count (queue who now)
  own-ready count ready =
      subst (AreReady count) (sym own-same) (subst (Each (λ a. AreReady count (queue a old))) (left-of whos i who within is) (each-left (λ a. AreReady count (queue a old)) i whos ready)).0

  pub emptied-more : (after : List Notice) (more : List Entry) → AreApart same_bare whos → more ≡ entries ++ notice_entries (queue who now)
      → ((other : Jid) → same_bare other who ≡ false → queue other after ≡ queue other now)
      → AreEmptied whos (i + 1) old after front more
  emptied-more after more apart added others =
      let next : take (i + 1) whos ≡ take i whos ++ who ∷ [] = take_more whos i who within ∙ ap (λ (x : Jid). take i whos ++ x ∷ []) (sym is) in
      let far = (subst (AreApart same_bare) (left-of whos i who within is) (apart-left i whos apart)).0 in
      let rest = (subst (Each (λ a. queue a now ≡ queue a old)) (left-of whos i who within is) so_far.rest).1 in
      record {
        moved =
            added ∙ ap (λ (es : List Entry). es ++ notice_entries (queue who now)) so_far.moved
            ∙ append_assoc front (notice_entries (notices_of old (take i whos))) (notice_entries (queue who now))
            ∙ ap (λ (es : List Entry). front ++ es)
            (ap (λ (ns : List Notice). notice_entries (notices_of old (take i whos)) ++ notice_entries ns) own-same
            ∙ joined (notices_of old (take i whos)) (queue who old)
            ∙ ap notice_entries (ap (λ (ns : List Notice). notices_of old (take i whos) ++ ns) (sym (append-nil (queue who old))) ∙ sym (flat_map-append (λ a. queue a old) (take i whos) (who ∷ [])) ∙
            ap (notices_of old) (sym next)));
        rest = stay-same who old now after (drop (i + 1) whos) others far rest;
      }

pub emptied-all : (whos : List Jid) (i : ℕ) (old now : List Notice) (front entries : List Entry) → length whos ≤ i → AreEmptied whos i old now front entries
    → entries ≡ front ++ notice_entries (notices_of old whos)
emptied-all whos i old now front entries all is = is.moved ∙ ap (λ (js : List Jid). front ++ notice_entries (notices_of old js)) (take_all i whos all)
