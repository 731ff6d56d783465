-- Which address is ready.
use Rattle.std.proofs.Common.{◌≡◌, ℕ, ◌<◌, ◌≤◌, Bool, true, false, cond, not, ◌&&◌, ◌||◌, List, [], ◌∷◌, Option, Some, None, refl, ap, sym, ◌∙◌, subst, arith, true≢false}
use Rattle.std.specs.Prelude.{find, nat_le, nat_lt, bytes_eq, is_some, option_copied, IsSome, IfSome, IfNone}
use denote.Ref.{Bor}
use Rattle.std.specs.List.{list_any, list_all}
use Rattle.std.proofs.lemmas.Bool.Decides.{nat_tests}
use Rattle.std.proofs.lemmas.Slice.Eq.{bytes_eq-Decides}
use Rattle.ps_types.specs.declared.entry.Notice.{Notice}
use Rattle.ps_types.specs.declared.jid.Jid.{Jid}
use Rattle.ps_types.specs.Address.{bare as bare_of}
use Rattle.ps_types.specs.Same.{same_bare}
use Rattle.ps_rows.proofs.Sought.{bare-back, bare-on}
use Rattle.ps_base.specs.Rows.{Table}
use Rattle.ps_outbox.specs.Boxes.{has_box, is_of, is_to, shown, peeked, is_known, is_ready, IsReady, NoneReady}
use Rattle.ps_outbox.specs.Keys.{is_at}
use Rattle.ps_outbox.specs.Kept.{rises, is_apart, is_bare, QueuesAreKept}
use Rattle.ps_outbox.proofs.Keeping.{both, not_known}

-- ---- the first that passes

found_by : {X : Type 0} (p : X → Bool) (x y : X) (o : Option X) (b : Bool) → p x ≡ b → (o ≡ Some y → p y ≡ true) → cond b (Some x) o ≡ Some y → p y ≡ true
found_by p x y o true e more h = let same : x ≡ y = cc in ap p (sym same) ∙ e
found_by p x y o false e more h = more h

-- what is found passes
pub found_passes : {X : Type 0} (p : X → Bool) (xs : List X) (y : X) → find p xs ≡ Some y → p y ≡ true
found_passes p [] y h = absurd (cc)
found_passes p (x ∷ xs) y h = found_by p x y (find p xs) (p x) refl (found_passes p xs y) h

found_all_by : {X : Type 0} (p q : X → Bool) (x y : X) (o : Option X) (b c : Bool) → p x ≡ c → q x ≡ b → (b && list_all q [] ≡ true) → (o ≡ Some y → q y ≡ true) → cond c (Some x) o ≡ Some y
    → q y ≡ true
found_all_by p q x y o true true e d h more f = let same : x ≡ y = cc in ap q (sym same) ∙ d
found_all_by p q x y o true false e d h more f = more f
found_all_by p q x y o false c e d h more f = absurd (true≢false (sym h))

-- what all pass, it passes too
pub found_all : {X : Type 0} (p q : X → Bool) (xs : List X) (y : X) → list_all q xs ≡ true → find p xs ≡ Some y → q y ≡ true
found_all p q [] y a h = absurd (cc)
found_all p q (x ∷ xs) y a h =
    let b = both (q x) (list_all q xs) a in
    found_all_by p q x y (find p xs) (q x) (p x) refl refl (λ i. b.0 i && true) (found_all p q xs y b.1) h

narrow_by : {X : Type 0} (p q : X → Bool) (x y : X) (o r : Option X) (b c : Bool) → p x ≡ b → q x ≡ c → (c ≡ true → b ≡ true) → q y ≡ true → (o ≡ Some y → r ≡ Some y) → cond b (Some x) o ≡ Some y
    → cond c (Some x) r ≡ Some y
narrow_by p q x y o r true true e d f t more h = h
narrow_by p q x y o r true false e d f t more h = let same : x ≡ y = cc in absurd (true≢false (sym (ap q same ∙ t) ∙ d))
narrow_by p q x y o r false true e d f t more h = absurd (true≢false (sym (f refl)))
narrow_by p q x y o r false false e d f t more h = more h

-- the first that passes is the first that passes a narrower test, where it passes that too
pub found_narrow : {X : Type 0} (p q : X → Bool) → ((x : X) → q x ≡ true → p x ≡ true) → (xs : List X) (y : X) → q y ≡ true → find p xs ≡ Some y → find q xs ≡ Some y
found_narrow p q f [] y t h = absurd (cc)
found_narrow p q f (x ∷ xs) y t h = narrow_by p q x y (find p xs) (find q xs) (p x) (q x) refl refl (f x) t (found_narrow p q f xs y t) h

none_by : {X : Type 0} (x : X) (o : Option X) (r : Option X) (b c : Bool) → (c ≡ true → b ≡ true) → (o ≡ None → r ≡ None) → cond b (Some x) o ≡ None → cond c (Some x) r ≡ None
none_by x o r true c f more h = absurd (cc)
none_by x o r false true f more h = absurd (true≢false (sym (f refl)))
none_by x o r false false f more h = more h

pub none_narrow : {X : Type 0} (p q : X → Bool) → ((x : X) → q x ≡ true → p x ≡ true) → (xs : List X) → find p xs ≡ None → find q xs ≡ None
none_narrow p q f [] h = refl
none_narrow p q f (x ∷ xs) h = none_by x (find p xs) (find q xs) (p x) (q x) (f x) (none_narrow p q f xs) h

-- ---- addresses of a host

host_of : (a b : Jid) → same_bare a b ≡ true → a.host ≡ b.host
unfolding same_bare
host_of a b h = (bytes_eq-Decides a.host b.host).0 (both (bytes_eq a.local b.local) (bytes_eq a.host b.host) h).1

-- a notice to an address of the host is one to the host
at_host : (host : List ℕ) (who : Jid) → who.host ≡ host → (n : Notice) → is_to who n ≡ true → is_at host n ≡ true
at_host host who e n h = (bytes_eq-Decides host n.to.host).1 (sym e ∙ host_of who n.to h)

-- ---- places in order

-- where places don't fall, none from here on is below the lowest
later_by : (durable low : ℕ) (m n : Notice) (o : Option Notice) (b : Bool) → durable ≤ low → low ≤ m.place → (o ≡ Some n → durable ≤ n.place) → cond b (Some m) o ≡ Some n → durable ≤ n.place
later_by durable low m n o true h l more f = let same : m ≡ n = cc in subst (λ (k : Notice). durable ≤ k.place) same (omega arith)
later_by durable low m n o false h l more f = more f

later : (durable low : ℕ) (q : Notice → Bool) (waiting : List Notice) (last : ℕ) (n : Notice) → durable ≤ low → rises low waiting last ≡ true → find q waiting ≡ Some n → durable ≤ n.place
later durable low q [] last n h r f = absurd (cc)
later durable low q (m ∷ ms) last n h r f =
    let b = both (nat_le low m.place) (rises m.place ms last) r in
    let l : low ≤ m.place = grind (arith, nat_tests) in
    later_by durable low m n (find q ms) (q m) h l (λ g. later durable m.place q ms last n (omega arith) b.1 g) f

after_by : (durable : ℕ) (p q : Notice → Bool) (m f n : Notice) (ms : List Notice) (last : ℕ) (b c : Bool) → p m ≡ b → q m ≡ c → (c ≡ true → b ≡ true) → rises m.place ms last ≡ true
    → durable ≤ f.place
    → (find p ms ≡ Some f → find q ms ≡ Some n → durable ≤ n.place) → cond b (Some m) (find p ms) ≡ Some f → cond c (Some m) (find q ms) ≡ Some n → durable ≤ n.place
after_by durable p q m f n ms last true true e d i r h more x y = let same : f ≡ m = cc in let too : m ≡ n = cc in subst (λ (k : Notice). durable ≤ k.place) (same ∙ too) h
after_by durable p q m f n ms last true false e d i r h more x y =
    let same : f ≡ m = cc in
    let low : durable ≤ m.place = subst (λ (k : Notice). durable ≤ k.place) same h in
    later durable m.place q ms last n low r y
after_by durable p q m f n ms last false true e d i r h more x y = absurd (true≢false (sym (i refl)))
after_by durable p q m f n ms last false false e d i r h more x y = more x y

-- where the first of a host isn't durable, none of the host is
after : (durable low : ℕ) (p q : Notice → Bool) → ((x : Notice) → q x ≡ true → p x ≡ true) → (waiting : List Notice) (last : ℕ) (f n : Notice) → rises low waiting last ≡ true → durable ≤ f.place
    → find p waiting ≡ Some f → find q waiting ≡ Some n → durable ≤ n.place
after durable low p q i [] last f n r h x y = absurd (cc)
after durable low p q i (m ∷ ms) last f n r h x y =
    let b = both (nat_le low m.place) (rises m.place ms last) r in
    after_by durable p q m f n ms last (p m) (q m) refl refl (i m) b.1 h (after durable m.place p q i ms last f n b.1 h) x y

-- ---- what is answered

none_shown : (durable : ℕ) (o : Option Notice) → ((n : Notice) → o ≡ Some n → durable ≤ n.place) → shown durable o ≡ None
none_shown durable None h = refl
none_shown durable (Some n) h =
    let l : durable ≤ n.place = h n refl in
    let above : nat_lt n.place durable ≡ false = grind (arith, nat_tests) in
    ap (λ b. cond b (Some n) None) above

in_order_rises : (in_order : Bool) (waiting : List Notice) (last : ℕ) → in_order ≡ true → not in_order || rises 0 waiting last ≡ true → rises 0 waiting last ≡ true
in_order_rises true waiting last e h = h
in_order_rises false waiting last e h = absurd (true≢false (sym e))

not_low : (durable : ℕ) (f : Notice) → is_some (shown durable (Some f)) ≡ false → durable ≤ f.place
not_low durable f h = by (nat_lt f.place durable) refl h
  where
    by : (b : Bool) → nat_lt f.place durable ≡ b → is_some (cond b (Some f) None) ≡ false → durable ≤ f.place
    by true e h = absurd (true≢false h)
    by false e h = grind (arith, nat_tests)

-- the host's first notice isn't durable, or there is none
pub none_durable : (host : List ℕ) (durable : ℕ) (waiting : List Notice) (free : Table Jid) (held : List Jid) (last : ℕ) (in_order : Bool) → in_order ≡ true
    → QueuesAreKept waiting free held last in_order
    → is_some (shown durable (find (is_at host) waiting)) ≡ false → NoneReady host durable waiting held
none_durable host durable waiting free held last in_order e k h = record { all = λ who here apart. by (find (is_at host) waiting) refl h who here }
  where
    by : (o : Option Notice) → find (is_at host) waiting ≡ o → is_some (shown durable o) ≡ false → (who : Jid) → who.host ≡ host → shown durable (find (is_to who) waiting) ≡ None
    by None f h who here = ap (shown durable) (none_narrow (is_at host) (is_to who) (at_host host who here) waiting f)
    by (Some n) f h who here =
        none_shown durable (find (is_to who) waiting) (λ m g. after durable 0 (is_at host) (is_to who) (at_host host who here) waiting last n m (in_order_rises in_order waiting last e k.order)
        (not_low durable n h) f g)

-- ---- a walk through the addresses that are not held

some_is : (o : Option Notice) → is_some o ≡ true → IsSome o
some_is None h = absurd (true≢false (sym h))
some_is (Some n) h = refl

not_true_is : (b : Bool) → not b ≡ true → b ≡ false
not_true_is true h = absurd (true≢false (sym h))
not_true_is false h = refl

pub ready_found : (host : List ℕ) (durable : ℕ) (waiting : List Notice) (free : Table Jid) (held : List Jid) (last : ℕ) (in_order : Bool) (j : Jid) → QueuesAreKept waiting free held last in_order
    → find (is_ready host durable waiting) free.rows ≡ Some j → IsReady host durable j waiting held
ready_found host durable waiting free held last in_order j k f =
    let parts = both (is_of host j) (is_some (peeked j durable waiting)) (found_passes (is_ready host durable waiting) free.rows j f) in
    record {
      bare = (bytes_eq-Decides j.resource []).0 (found_all (is_ready host durable waiting) is_bare free.rows j k.bare f);
      here = sym ((bytes_eq-Decides host j.host).0 parts.0);
      first = some_is (peeked j durable waiting) parts.1;
      apart = not_true_is (is_known j held) (found_all (is_ready host durable waiting) (is_apart held) free.rows j k.apart f);
    }

none_is : (o : Option Notice) → is_some o ≡ false → o ≡ None
none_is None h = refl
none_is (Some n) h = absurd (true≢false h)

-- an address of a list by a test, and another test that all of the list fail
module _ (test : Jid → Bool) (p : Jid → Bool) (G : Type 0) (found : (a : Jid) → p a ≡ true → test a ≡ false → G) where
  member_by : (a : Jid) (as_ : List Jid) (b t : Bool) → p a ≡ b → test a ≡ t → (find test as_ ≡ None → list_any p as_ ≡ true → G) → cond t (Some a) (find test as_) ≡ None → b || list_any p as_ ≡ true
      → G
  member_by a as_ b true e d more f h = absurd (let no : Some a ≡ None = f in cc no)
  member_by a as_ true false e d more f h = found a e d
  member_by a as_ false false e d more f h = more f h

  member : (addresses : List Jid) → find test addresses ≡ None → list_any p addresses ≡ true → G
  member [] f h = absurd (true≢false (sym h))
  member (a ∷ as_) f h = member_by a as_ (p a) (test a) refl refl (member as_) f h

left_known : (a b : Bool) → a || b ≡ true → b ≡ false → a ≡ true
left_known true b h e = refl
left_known false b h e = absurd (true≢false (sym h ∙ e))

of_false : (a b : Bool) → a && b ≡ false → a ≡ true → b ≡ false
of_false true b h e = h
of_false false b h e = absurd (true≢false (sym e))

pub none_found : (host : List ℕ) (durable : ℕ) (waiting : List Notice) (free : Table Jid) (held : List Jid) (last : ℕ) (in_order : Bool) → QueuesAreKept waiting free held last in_order
    → find (is_ready host durable waiting) free.rows ≡ None → NoneReady host durable waiting held
none_found host durable waiting free held last in_order k none = record { all = λ who here apart. by who here apart (find (is_to who) waiting) refl }
  where
    by : (who : Jid) → who.host ≡ host → is_known who held ≡ false → (o : Option Notice) → find (is_to who) waiting ≡ o → shown durable o ≡ None
    by who here apart None f = refl
    by who here apart (Some n) f =
        let to : same_bare who n.to ≡ true = found_passes (is_to who) waiting n f in
        let box : has_box free.rows held n.to ≡ true = found_all (is_to who) (λ m. has_box free.rows held m.to) waiting n k.known f in
        let known : is_known n.to free.rows ≡ true = left_known (is_known n.to free.rows) (is_known n.to held) box (not_known who n.to to held apart) in
        member (is_ready host durable waiting) (same_bare n.to) (shown durable (Some n) ≡ None)
        (λ a same no.
        (let own : same_bare who a ≡ true = bare-on who n.to a to same in
        let at : is_of host a ≡ true = (bytes_eq-Decides host a.host).1 (sym here ∙ host_of who a own) in
        let first : find (is_to a) waiting ≡ Some n = found_narrow (is_to who) (is_to a) (λ x h. bare-on who a x.to own h) waiting n (bare-back n.to a same) f in
        none_is (shown durable (Some n)) (ap (λ o. is_some (shown durable o)) (sym first) ∙ of_false (is_of host a) (is_some (peeked a durable waiting)) no at)))
        free.rows none known

-- an address and its bare one
own_bare : (a : Jid) → same_bare a (bare_of a) ≡ true
unfolding same_bare
own_bare a = (λ i. (bytes_eq-Decides a.local a.local).1 refl i && (bytes_eq-Decides a.host a.host).1 refl i)

pub to_its_bare : (a b : Jid) → b ≡ bare_of a → same_bare a b ≡ true
to_its_bare a b e = subst (λ (j : Jid). same_bare a j ≡ true) (sym e) (own_bare a)

pub known_by_spare : (b : Bool) (n : ℕ) → 0 < cond b n 0 → b ≡ true
known_by_spare true n h = refl
known_by_spare false n h = absurd (omega arith)

-- an answer that is a reference
pub ready_some : (host : List ℕ) (durable : ℕ) (waiting : List Notice) (held : List Jid) (o : Option (Bor Jid)) (f : Option Jid) → option_copied o ≡ f
    → ((j : Jid) → f ≡ Some j → IsReady host durable j waiting held)
    → IfSome o (λ j. IsReady host durable j.now waiting held)
ready_some host durable waiting held None f e h = tt
ready_some host durable waiting held (Some j) f e h = h j.now (sym e)
