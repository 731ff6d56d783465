-- What is kept true as notices come and go.
use Rattle.std.proofs.Common.{
  ◌≡◌,
  ◌⊎◌,
  inl,
  inr,
  ℕ,
  suc,
  ◌+◌,
  ◌<◌,
  ◌≤◌,
  Bool,
  true,
  false,
  cond,
  not,
  ◌&&◌,
  ◌||◌,
  List,
  [],
  ◌∷◌,
  ◌++◌,
  length,
  Option,
  Some,
  None,
  refl,
  ap,
  sym,
  ◌∙◌,
  subst,
  arith,
  true≢false,
  length-append,
}
use Rattle.std.specs.Prelude.{find, is_some, nat_le, nat_lt, option_copied}
use denote.Ref.{Bor}
use Rattle.std.specs.List.{list_any, list_all}
use Rattle.std.proofs.lemmas.Bool.Decides.{nat_tests}
use Rattle.std.proofs.lemmas.List.Folds.{list_any-append}
use Rattle.ps_base.specs.Rows.{Table, without, without_first}
use Rattle.ps_types.specs.declared.entry.Notice.{Notice}
use Rattle.ps_types.specs.declared.jid.Jid.{Jid}
use Rattle.ps_types.specs.Same.{same_bare}
use Rattle.ps_rows.proofs.Sought.{bare-back, bare-on}
use Rattle.ps_outbox.specs.Boxes.{Boxes, has_box, is_known, is_to, spare_for}
use Rattle.ps_outbox.specs.Kept.{rises, is_apart, is_bare, stamped, stamped_by, QueuesAreKept}

pub both : (a b : Bool) → a && b ≡ true → (a ≡ true) × (b ≡ true)
both true b h = (refl, h)
both false b h = absurd (true≢false (sym h))

pub pair : (a b : Bool) → a ≡ true → b ≡ true → a && b ≡ true
pair a b p q = (λ i. p i && q i)

module _ {X : Type 0} where
  pub all_more : (p : X → Bool) (xs : List X) (x : X) → list_all p xs ≡ true → p x ≡ true → list_all p (xs ++ x ∷ []) ≡ true
  all_more p [] x h e = pair (p x) true e refl
  all_more p (y ∷ ys) x h e = let b = both (p y) (list_all p ys) h in pair (p y) (list_all p (ys ++ x ∷ [])) b.0 (all_more p ys x b.1 e)

  without_by : (p test : X → Bool) (x : X) (xs : List X) (b : Bool) → p x ≡ true → list_all p xs ≡ true → list_all p (without_first test xs) ≡ true
      → list_all p (cond b xs (x ∷ without_first test xs)) ≡ true
  without_by p test x xs true e h more = h
  without_by p test x xs false e h more = pair (p x) (list_all p (without_first test xs)) e more

  pub all_without : (p test : X → Bool) (xs : List X) → list_all p xs ≡ true → list_all p (without_first test xs) ≡ true
  all_without p test [] h = refl
  all_without p test (x ∷ xs) h = let b = both (p x) (list_all p xs) h in without_by p test x xs (test x) b.0 b.1 (all_without p test xs b.1)

  pub all_same_test : (p q : X → Bool) → ((x : X) → p x ≡ true → q x ≡ true) → (xs : List X) → list_all p xs ≡ true → list_all q xs ≡ true
  all_same_test p q f [] h = refl
  all_same_test p q f (x ∷ xs) h = let b = both (p x) (list_all p xs) h in pair (q x) (list_all q xs) (f x b.0) (all_same_test p q f xs b.1)

or_left : (a b : Bool) → a ≡ true → a || b ≡ true
or_left a b e = ap (λ x. x || b) e

-- ---- an address more

pub still_known : (who one : Jid) (addresses : List Jid) → is_known who addresses ≡ true → is_known who (addresses ++ one ∷ []) ≡ true
still_known who one addresses h = list_any-append (same_bare who) addresses (one ∷ []) ∙ or_left (list_any (same_bare who) addresses) (list_any (same_bare who) (one ∷ [])) h

or_right : (a b : Bool) → b ≡ true → a || (b || false) ≡ true
or_right true b e = refl
or_right false b e = ap (λ x. x || false) e

pub now_known : (who one : Jid) (addresses : List Jid) → same_bare who one ≡ true → is_known who (addresses ++ one ∷ []) ≡ true
now_known who one addresses h = list_any-append (same_bare who) addresses (one ∷ []) ∙ or_right (list_any (same_bare who) addresses) (same_bare who one) h

-- addresses that are the same are known alike
known_alike : (a b : Jid) → same_bare a b ≡ true → (addresses : List Jid) → is_known a addresses ≡ true → is_known b addresses ≡ true
known_alike a b e [] h = h
known_alike a b e (x ∷ xs) h = by (same_bare a x) (same_bare b x) refl refl (known_alike a b e xs) h
  where
    by : (s t : Bool) → same_bare a x ≡ s → same_bare b x ≡ t → (is_known a xs ≡ true → is_known b xs ≡ true) → s || is_known a xs ≡ true → t || is_known b xs ≡ true
    by s true p q more m = refl
    by true false p q more m = absurd (true≢false (sym (bare-on b a x (bare-back a b e) p) ∙ q))
    by false false p q more m = more m

pub not_known : (a b : Jid) → same_bare a b ≡ true → (addresses : List Jid) → is_known a addresses ≡ false → is_known b addresses ≡ false
not_known a b e addresses h = by (is_known b addresses) refl
  where
    by : (t : Bool) → is_known b addresses ≡ t → t ≡ false
    by true q = absurd (true≢false (sym (known_alike b a (bare-back a b e) addresses q) ∙ h))
    by false q = refl

bare_apart : (a b : Jid) → same_bare a b ≡ false → same_bare b a ≡ false
bare_apart a b h = by (same_bare b a) refl
  where
    by : (t : Bool) → same_bare b a ≡ t → t ≡ false
    by true e = absurd (true≢false (sym (bare-back b a e) ∙ h))
    by false e = refl

not_true : (b : Bool) → b ≡ false → not b ≡ true
not_true b e = ap not e

not_false : (b : Bool) → not b ≡ true → b ≡ false
not_false true h = absurd (true≢false (sym h))
not_false false h = refl

-- ---- an address is taken out of a list

-- it is known no more
pub gone_known : (who : Jid) (addresses : List Jid) → is_known who (without (same_bare who) addresses) ≡ false
gone_known who [] = refl
gone_known who (x ∷ xs) = by (same_bare who x) refl (gone_known who xs)
  where
    by : (t : Bool) → same_bare who x ≡ t → is_known who (without (same_bare who) xs) ≡ false → is_known who (cond (not t) (x ∷ without (same_bare who) xs) (without (same_bare who) xs)) ≡ false
    by true e more = more
    by false e more = (λ i. e i || more i)

-- and the others are as before
pub others_known : (who other : Jid) → same_bare who other ≡ false → (addresses : List Jid) → is_known other (without (same_bare who) addresses) ≡ is_known other addresses
others_known who other far [] = refl
others_known who other far (x ∷ xs) = by (same_bare who x) (same_bare other x) refl refl (others_known who other far xs)
  where
    by : (t u : Bool) → same_bare who x ≡ t → same_bare other x ≡ u → is_known other (without (same_bare who) xs) ≡ is_known other xs
        → is_known other (cond (not t) (x ∷ without (same_bare who) xs) (without (same_bare who) xs)) ≡ u || is_known other xs
    by true true e f more = absurd (true≢false (sym (bare-on who x other e (bare-back other x f)) ∙ far))
    by true false e f more = more
    by false u e f more = (λ i. f i || more i)

less_known : (who other : Jid) (addresses : List Jid) → is_known other addresses ≡ false → is_known other (without (same_bare who) addresses) ≡ false
less_known who other addresses h = by (same_bare who other) refl
  where
    by : (t : Bool) → same_bare who other ≡ t → is_known other (without (same_bare who) addresses) ≡ false
    by true e = not_known who other e (without (same_bare who) addresses) (gone_known who addresses)
    by false e = others_known who other e addresses ∙ h

less_long : (who : Jid) (addresses : List Jid) → length (without (same_bare who) addresses) ≤ length addresses
less_long who [] = omega arith
less_long who (x ∷ xs) = by (same_bare who x) (less_long who xs)
  where
    by : (t : Bool) → length (without (same_bare who) xs) ≤ length xs → length (cond (not t) (x ∷ without (same_bare who) xs) (without (same_bare who) xs)) ≤ suc (length xs)
    by true l = omega (arith, l)
    by false l = omega (arith, l)

one_less : (who : Jid) (addresses : List Jid) → is_known who addresses ≡ true → length (without (same_bare who) addresses) + 1 ≤ length addresses
one_less who [] h = absurd (true≢false (sym h))
one_less who (x ∷ xs) h = by (same_bare who x) (one_less who xs) h
  where
    by : (t : Bool) → (is_known who xs ≡ true → length (without (same_bare who) xs) + 1 ≤ length xs) → t || is_known who xs ≡ true
        → length (cond (not t) (x ∷ without (same_bare who) xs) (without (same_bare who) xs)) + 1 ≤ suc (length xs)
    by true more m = let l = less_long who xs in omega (arith, l)
    by false more m = let l = more m in omega (arith, l)

all_left : (p : Jid → Bool) (who : Jid) (addresses : List Jid) → list_all p addresses ≡ true → list_all p (without (same_bare who) addresses) ≡ true
all_left p who [] h = refl
all_left p who (x ∷ xs) h = by (same_bare who x) (all_left p who xs) (both (p x) (list_all p xs) h)
  where
    by : (t : Bool) → (list_all p xs ≡ true → list_all p (without (same_bare who) xs) ≡ true) → (p x ≡ true) × (list_all p xs ≡ true)
        → list_all p (cond (not t) (x ∷ without (same_bare who) xs) (without (same_bare who) xs)) ≡ true
    by true more b = more b.1
    by false more b = pair (p x) (list_all p (without (same_bare who) xs)) b.0 (more b.1)

-- ---- boxes

either : (a b : Bool) → a || b ≡ true → (a ≡ true) ⊎ (b ≡ true)
either true b h = inl refl
either false b h = inr h

or_second : (a b : Bool) → b ≡ true → a || b ≡ true
or_second true b e = refl
or_second false b e = e

pub box_more : (free held : List Jid) (one who : Jid) → has_box free held who ≡ true → has_box (free ++ one ∷ []) held who ≡ true
box_more free held one who h = elim (either (is_known who free) (is_known who held) h) [
  | inl e ↦ or_left (is_known who (free ++ one ∷ [])) (is_known who held) (still_known who one free e)
  | inr e ↦ or_second (is_known who (free ++ one ∷ [])) (is_known who held) e
]

pub own_box : (free held : List Jid) (one who : Jid) → same_bare who one ≡ true → has_box (free ++ one ∷ []) held who ≡ true
own_box free held one who e = or_left (is_known who (free ++ one ∷ [])) (is_known who held) (now_known who one free e)

-- an address is held
pub box_held : (free held : List Jid) (one who : Jid) → has_box free held who ≡ true → has_box (without (same_bare one) free) (held ++ one ∷ []) who ≡ true
box_held free held one who h = by (same_bare one who) refl (either (is_known who free) (is_known who held) h)
  where
    by : (t : Bool) → same_bare one who ≡ t → (is_known who free ≡ true) ⊎ (is_known who held ≡ true) → has_box (without (same_bare one) free) (held ++ one ∷ []) who ≡ true
    by true e h = or_second (is_known who (without (same_bare one) free)) (is_known who (held ++ one ∷ [])) (now_known who one held (bare-back one who e))
    by false e (inl f) = or_left (is_known who (without (same_bare one) free)) (is_known who (held ++ one ∷ [])) (others_known one who e free ∙ f)
    by false e (inr f) = or_second (is_known who (without (same_bare one) free)) (is_known who (held ++ one ∷ [])) (still_known who one held f)

-- or released, as another than this
pub box_released : (free held : List Jid) (one who : Jid) → same_bare one who ≡ false → has_box free held who ≡ true → has_box free (without (same_bare one) held) who ≡ true
box_released free held one who far h = ap (λ t. is_known who free || t) (others_known one who far held) ∙ h

pub box_back : (free held : List Jid) (one who : Jid) → has_box free held who ≡ true → has_box (free ++ one ∷ []) (without (same_bare one) held) who ≡ true
box_back free held one who h = by (same_bare one who) refl
  where
    by : (t : Bool) → same_bare one who ≡ t → has_box (free ++ one ∷ []) (without (same_bare one) held) who ≡ true
    by true e = own_box free (without (same_bare one) held) one who (bare-back one who e)
    by false e = box_more free (without (same_bare one) held) one who (box_released free held one who e h)

-- the same by the lists that then are
pub held_as : (free new held now : List Jid) (one who : Jid) → new ≡ without (same_bare one) free → now ≡ held ++ one ∷ [] → has_box free held who ≡ true → has_box new now who ≡ true
held_as free new held now one who less more h = ap (λ l. has_box l now who) less ∙ (ap (λ l. has_box (without (same_bare one) free) l who) more ∙ box_held free held one who h)

pub released_as : (free held now : List Jid) (one who : Jid) → now ≡ without (same_bare one) held → same_bare one who ≡ false → has_box free held who ≡ true → has_box free now who ≡ true
released_as free held now one who less far h = ap (λ l. has_box free l who) less ∙ box_released free held one who far h

pub back_as : (free new held now : List Jid) (one who : Jid) → new ≡ free ++ one ∷ [] → now ≡ without (same_bare one) held → has_box free held who ≡ true → has_box new now who ≡ true
back_as free new held now one who more less h = ap (λ l. has_box l now who) more ∙ (ap (λ l. has_box (free ++ one ∷ []) l who) less ∙ box_back free held one who h)

pub forgotten_as : (free new held : List Jid) (one who : Jid) → new ≡ without (same_bare one) free → same_bare one who ≡ false → has_box free held who ≡ true → has_box new held who ≡ true
forgotten_as free new held one who less far h = ap (λ l. has_box l held who) less ∙ (ap (λ t. t || is_known who held) (others_known one who far free) ∙ h)

-- ---- an address more, and one that is held or released

pub address_more : (waiting : List Notice) (free new : Table Jid) (held : List Jid) (last : ℕ) (in_order : Bool) (one : Jid) → new.rows ≡ free.rows ++ one ∷ [] → length held ≤ new.spare
    → is_bare one ≡ true → is_known one held ≡ false
    → QueuesAreKept waiting free held last in_order → QueuesAreKept waiting new held last in_order
address_more waiting free new held last in_order one more room e far k = record {
  known = subst (λ (l : List Jid). list_all (λ n. has_box l held n.to) waiting ≡ true) (sym more)
      (all_same_test (λ n. has_box free.rows held n.to) (λ n. has_box (free.rows ++ one ∷ []) held n.to) (λ n h. box_more free.rows held one n.to h) waiting k.known);
  bare = ap (list_all is_bare) more ∙ all_more is_bare free.rows one k.bare e;
  apart = ap (list_all (is_apart held)) more ∙ all_more (is_apart held) free.rows one k.apart (not_true (is_known one held) far);
  room = room;
  order = k.order;
}

apart_held : (held : List Jid) (one : Jid) (free : List Jid) → list_all (is_apart held) free ≡ true → list_all (is_apart (held ++ one ∷ [])) (without (same_bare one) free) ≡ true
apart_held held one [] h = refl
apart_held held one (x ∷ xs) h = by (same_bare one x) refl (apart_held held one xs) (both (is_apart held x) (list_all (is_apart held) xs) h)
  where
    still : same_bare one x ≡ false → is_known x held ≡ false → is_known x (held ++ one ∷ []) ≡ false
    still e f = list_any-append (same_bare x) held (one ∷ []) ∙ (λ i. f i || (bare_apart one x e i || false))

    by : (t : Bool) → same_bare one x ≡ t → (list_all (is_apart held) xs ≡ true → list_all (is_apart (held ++ one ∷ [])) (without (same_bare one) xs) ≡ true)
        → (is_apart held x ≡ true) × (list_all (is_apart held) xs ≡ true)
        → list_all (is_apart (held ++ one ∷ [])) (cond (not t) (x ∷ without (same_bare one) xs) (without (same_bare one) xs)) ≡ true
    by true e more b = more b.1
    by false e more b = pair (is_apart (held ++ one ∷ []) x) (list_all (is_apart (held ++ one ∷ [])) (without (same_bare one) xs))
        (not_true (is_known x (held ++ one ∷ [])) (still e (not_false (is_known x held) b.0))) (more b.1)

pub one_held : (waiting : List Notice) (free new : Table Jid) (held now : List Jid) (last : ℕ) (in_order : Bool) (one : Jid) → new.rows ≡ without (same_bare one) free.rows
    → length held + 1 ≤ new.spare → now ≡ held ++ one ∷ []
    → QueuesAreKept waiting free held last in_order → QueuesAreKept waiting new now last in_order
one_held waiting free new held now last in_order one less room more k = subst (λ (l : List Jid). QueuesAreKept waiting new l last in_order) (sym more) (record {
  known = subst (λ (l : List Jid). list_all (λ n. has_box l (held ++ one ∷ []) n.to) waiting ≡ true) (sym less)
      (all_same_test (λ n. has_box free.rows held n.to) (λ n. has_box (without (same_bare one) free.rows) (held ++ one ∷ []) n.to) (λ n h. box_held free.rows held one n.to h) waiting k.known);
  bare = ap (list_all is_bare) less ∙ all_left is_bare one free.rows k.bare;
  apart = ap (list_all (is_apart (held ++ one ∷ []))) less ∙ apart_held held one free.rows k.apart;
  room = (let l = length-append held (one ∷ []) in omega (arith, l, room));
  order = k.order;
})

apart_released : (held : List Jid) (one : Jid) (free : List Jid) → list_all (is_apart held) free ≡ true → list_all (is_apart (without (same_bare one) held)) free ≡ true
apart_released held one [] h = refl
apart_released held one (x ∷ xs) h =
    let b = both (is_apart held x) (list_all (is_apart held) xs) h in
    pair (is_apart (without (same_bare one) held) x) (list_all (is_apart (without (same_bare one) held)) xs)
    (not_true (is_known x (without (same_bare one) held)) (less_known one x held (not_false (is_known x held) b.0))) (apart_released held one xs b.1)

-- while notices wait for it
pub one_back : (waiting : List Notice) (free new : Table Jid) (held now : List Jid) (last : ℕ) (in_order : Bool) (one : Jid) → new.rows ≡ free.rows ++ one ∷ [] → free.spare ≤ new.spare + 1
    → now ≡ without (same_bare one) held → is_bare one ≡ true → is_known one held ≡ true
    → QueuesAreKept waiting free held last in_order → QueuesAreKept waiting new now last in_order
one_back waiting free new held now last in_order one more room less e here k = subst (λ (l : List Jid). QueuesAreKept waiting new l last in_order) (sym less) (record {
  known = subst (λ (l : List Jid). list_all (λ n. has_box l (without (same_bare one) held) n.to) waiting ≡ true) (sym more)
      (all_same_test (λ n. has_box free.rows held n.to) (λ n. has_box (free.rows ++ one ∷ []) (without (same_bare one) held) n.to) (λ n h. box_back free.rows held one n.to h) waiting k.known);
  bare = ap (list_all is_bare) more ∙ all_more is_bare free.rows one k.bare e;
  apart = ap (list_all (is_apart (without (same_bare one) held))) more
      ∙ all_more (is_apart (without (same_bare one) held)) free.rows one (apart_released held one free.rows k.apart) (not_true (is_known one (without (same_bare one) held)) (gone_known one held));
  room = (let l = one_less one held here in let r = k.room in omega (arith, l, room, r));
  order = k.order;
})

-- or while none does
none_to : (one : Jid) (n : Notice) (ns : List Notice) (o : Option Notice) (t : Bool) → same_bare one n.to ≡ t → cond t (Some n) o ≡ None → (t ≡ false) × (o ≡ None)
none_to one n ns o true e h = absurd (let no : Some n ≡ None = h in cc no)
none_to one n ns o false e h = (refl, h)

boxes_left : (free held : List Jid) (one : Jid) (waiting : List Notice) → find (is_to one) waiting ≡ None → list_all (λ n. has_box free held n.to) waiting ≡ true
    → list_all (λ n. has_box free (without (same_bare one) held) n.to) waiting ≡ true
boxes_left free held one [] none h = refl
boxes_left free held one (n ∷ ns) none h =
    let b = both (has_box free held n.to) (list_all (λ m. has_box free held m.to) ns) h in
    let far = none_to one n ns (find (is_to one) ns) (same_bare one n.to) refl none in
    pair (has_box free (without (same_bare one) held) n.to) (list_all (λ m. has_box free (without (same_bare one) held) m.to) ns) (box_released free held one n.to far.0 b.0)
    (boxes_left free held one ns far.1 b.1)

pub one_gone : (waiting : List Notice) (free : Table Jid) (held now : List Jid) (last : ℕ) (in_order : Bool) (one : Jid) → now ≡ without (same_bare one) held → find (is_to one) waiting ≡ None
    → QueuesAreKept waiting free held last in_order → QueuesAreKept waiting free now last in_order
one_gone waiting free held now last in_order one less none k = subst (λ (l : List Jid). QueuesAreKept waiting free l last in_order) (sym less) (record {
  known = boxes_left free.rows held one waiting none k.known;
  bare = k.bare;
  apart = apart_released held one free.rows k.apart;
  room = (let l = less_long one held in let r = k.room in omega (arith, l, r));
  order = k.order;
})

-- an address for which nothing waits is forgotten
boxes_kept : (free held : List Jid) (one : Jid) (waiting : List Notice) → find (is_to one) waiting ≡ None → list_all (λ n. has_box free held n.to) waiting ≡ true
    → list_all (λ n. has_box (without (same_bare one) free) held n.to) waiting ≡ true
boxes_kept free held one [] none h = refl
boxes_kept free held one (n ∷ ns) none h =
    let b = both (has_box free held n.to) (list_all (λ m. has_box free held m.to) ns) h in
    let far = none_to one n ns (find (is_to one) ns) (same_bare one n.to) refl none in
    pair (has_box (without (same_bare one) free) held n.to) (list_all (λ m. has_box (without (same_bare one) free) held m.to) ns)
    (ap (λ t. t || is_known n.to held) (others_known one n.to far.0 free) ∙ b.0) (boxes_kept free held one ns far.1 b.1)

pub one_forgotten : (waiting : List Notice) (free new : Table Jid) (held : List Jid) (last : ℕ) (in_order : Bool) (one : Jid) → new.rows ≡ without (same_bare one) free.rows → free.spare ≤ new.spare
    → find (is_to one) waiting ≡ None
    → QueuesAreKept waiting free held last in_order → QueuesAreKept waiting new held last in_order
one_forgotten waiting free new held last in_order one less room none k = record {
  known = subst (λ (l : List Jid). list_all (λ n. has_box l held n.to) waiting ≡ true) (sym less) (boxes_kept free.rows held one waiting none k.known);
  bare = ap (list_all is_bare) less ∙ all_left is_bare one free.rows k.bare;
  apart = ap (list_all (is_apart held)) less ∙ all_left (is_apart held) one free.rows k.apart;
  room = (let r = k.room in omega (arith, room, r));
  order = k.order;
}

-- ---- what is spare

-- for an address that has a box still
pub spare_kept : (old new : Boxes) (who : Jid) → old.room ≤ new.room → (has_box old.free old.held who ≡ true → has_box new.free new.held who ≡ true) → spare_for who old ≤ spare_for who new
spare_kept old new who room still = by (has_box old.free old.held who) (has_box new.free new.held who) refl refl
  where
    by : (b c : Bool) → has_box old.free old.held who ≡ b → has_box new.free new.held who ≡ c → cond b old.room 0 ≤ cond c new.room 0
    by true true p q = room
    by false c p q = omega arith
    by true false p q = absurd (true≢false (sym (still p) ∙ q))

-- where none is found
pub copied_none : (o : Option (Bor Notice)) → is_some o ≡ false → option_copied o ≡ None
copied_none None h = refl
copied_none (Some n) h = absurd (true≢false h)

-- ---- a notice more

rises_more : (low : ℕ) (waiting : List Notice) (last : ℕ) (n : Notice) → last ≤ n.place → rises low waiting last ≡ true → rises low (waiting ++ n ∷ []) n.place ≡ true
rises_more low [] last n h r = grind (arith, nat_tests)
rises_more low (m ∷ ms) last n h r =
    let b = both (nat_le low m.place) (rises m.place ms last) r in
    pair (nat_le low m.place) (rises m.place (ms ++ n ∷ []) n.place) b.0 (rises_more m.place ms last n h b.1)

order_more : (in_order : Bool) (waiting : List Notice) (last : ℕ) (n : Notice) → last ≤ n.place → not in_order || rises 0 waiting last ≡ true
    → not in_order || rises 0 (waiting ++ n ∷ []) n.place ≡ true
order_more true waiting last n h r = rises_more 0 waiting last n h r
order_more false waiting last n h r = refl

order_by : (b : Bool) (in_order : Bool) (waiting : List Notice) (last : ℕ) (n : Notice) → nat_lt n.place last ≡ b → not in_order || rises 0 waiting last ≡ true
    → not (stamped_by b last in_order n.place).1 || rises 0 (waiting ++ n ∷ []) (stamped_by b last in_order n.place).0 ≡ true
order_by true in_order waiting last n e r = refl
order_by false in_order waiting last n e r = order_more in_order waiting last n (grind (arith, nat_tests)) r

pub notice_more : (waiting : List Notice) (free : Table Jid) (held : List Jid) (last : ℕ) (in_order : Bool) (n : Notice) (p : ℕ × Bool) → p ≡ stamped last in_order n.place
    → has_box free.rows held n.to ≡ true → QueuesAreKept waiting free held last in_order → QueuesAreKept (waiting ++ n ∷ []) free held p.0 p.1
notice_more waiting free held last in_order n p e h k = record {
  known = all_more (λ m. has_box free.rows held m.to) waiting n k.known h;
  bare = k.bare;
  apart = k.apart;
  room = k.room;
  order = subst (λ (q : ℕ × Bool). not q.1 || rises 0 (waiting ++ n ∷ []) q.0 ≡ true) (sym e) (order_by (nat_lt n.place last) in_order waiting last n refl k.order);
}

-- ---- a notice less

rises_lower : (low lower : ℕ) (waiting : List Notice) (last : ℕ) → lower ≤ low → rises low waiting last ≡ true → rises lower waiting last ≡ true
rises_lower low lower [] last h r = grind (arith, nat_tests)
rises_lower low lower (m ∷ ms) last h r =
    let b = both (nat_le low m.place) (rises m.place ms last) r in
    pair (nat_le lower m.place) (rises m.place ms last) (grind (arith, nat_tests)) b.1

rises_by : (test : Notice → Bool) (low : ℕ) (m : Notice) (ms : List Notice) (last : ℕ) (b : Bool) → nat_le low m.place ≡ true → rises m.place ms last ≡ true
    → rises m.place (without_first test ms) last ≡ true
    → rises low (cond b ms (m ∷ without_first test ms)) last ≡ true
rises_by test low m ms last true e r more = rises_lower m.place low ms last (grind (arith, nat_tests)) r
rises_by test low m ms last false e r more = pair (nat_le low m.place) (rises m.place (without_first test ms) last) e more

rises_without : (test : Notice → Bool) (low : ℕ) (waiting : List Notice) (last : ℕ) → rises low waiting last ≡ true → rises low (without_first test waiting) last ≡ true
rises_without test low [] last r = r
rises_without test low (m ∷ ms) last r =
    let b = both (nat_le low m.place) (rises m.place ms last) r in
    rises_by test low m ms last (test m) b.0 b.1 (rises_without test m.place ms last b.1)

order_without : (test : Notice → Bool) (in_order : Bool) (waiting : List Notice) (last : ℕ) → not in_order || rises 0 waiting last ≡ true
    → not in_order || rises 0 (without_first test waiting) last ≡ true
order_without test true waiting last r = rises_without test 0 waiting last r
order_without test false waiting last r = refl

pub notice_less : (test : Notice → Bool) (waiting : List Notice) (free : Table Jid) (held : List Jid) (last : ℕ) (in_order : Bool) → QueuesAreKept waiting free held last in_order
    → QueuesAreKept (without_first test waiting) free held last in_order
notice_less test waiting free held last in_order k = record {
  known = all_without (λ n. has_box free.rows held n.to) test waiting k.known;
  bare = k.bare;
  apart = k.apart;
  room = k.room;
  order = order_without test in_order waiting last k.order;
}
