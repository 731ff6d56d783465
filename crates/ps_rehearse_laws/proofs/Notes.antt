-- The notices that are said for both hosts are as many as all entries make.
use Rattle.std.proofs.Common.{◌≡◌, ℕ, suc, ◌+◌, Bool, true, false, cond, List, [], ◌∷◌, ◌++◌, refl, sym, ap, ◌∙◌, subst, length, arith}
use Rattle.std.specs.Prelude.{bytes_eq, count_by, filter, map}
use Rattle.std.specs.List.{AllByRecursion as Each}
use Rattle.std.proofs.lemmas.Bool.{true≢false}
use Rattle.std.proofs.lemmas.Slice.Eq.{bytes_eq-Decides}
use Rattle.ps_base.proofs.Rows.{count_by-cons}
use Rattle.ps_types.specs.Same.{same_bare, same_jid}
use Rattle.ps_types.specs.declared.entry.Entry.{Entry}
use Rattle.ps_types.specs.declared.entry.Notice.{Notice}
use Rattle.ps_types.specs.declared.jid.Jid.{Jid}
use Rattle.ps_types.proofs.Same.{same_jid-Decides, same_parts}
use Rattle.ps_model.specs.After.{after, notices_at}
use Rattle.ps_model.specs.Book.{State}
use Rattle.ps_model.specs.Replay.{notices_from, of_bare, to_address}
use Rattle.ps_model.proofs.TallyLaws.{same_bare-Decides}
use Rattle.ps_trace.specs.Words.{Word, Reply, Note, notes_in}
use Rattle.ps_secrecy.proofs.ListLaws.{filter-more, seen-count}
use Rattle.ps_rehearse_laws.specs.Rehearsal.{made_from}
use Rattle.ps_rehearse_laws.specs.Runs.{IsTo}
use Rattle.ps_rehearse_laws.proofs.Bags.{same-length, times, times-cons, unit}
use Rattle.ps_rehearse_laws.proofs.Deal.{IsGuest, host_of}
use Rattle.ps_rehearse_laws.proofs.Entries.{entry-fits, entry-guests}
use Rattle.ps_rehearse_laws.proofs.Fit.{Fits}
use Rattle.ps_rehearse_laws.proofs.Walks.{Sound}

abbrev pub is_note : Word → Bool
is_note (Reply text) = false
is_note (Note to n) = true

-- ---- whom the words are to

abbrev notes_to : List Word → List Jid
notes_to [] = []
notes_to (Reply text ∷ ws) = notes_to ws
notes_to (Note to n ∷ ws) = to ∷ notes_to ws

notes-count : (ws : List Word) → count_by is_note ws ≡ length (notes_to ws)
notes-count [] = refl
notes-count (Reply text ∷ ws) = let h = notes-count ws in let p = count_by-cons is_note (Reply text) ws in omega (arith, h, p)
notes-count (Note to n ∷ ws) = let h = notes-count ws in let p = count_by-cons is_note (Note to n) ws in omega (arith, h, p)

notes-times : (a : Jid) (ws : List Word) → length (notes_in a ws) ≡ times a (notes_to ws)
notes-times a [] = refl
notes-times a (Reply text ∷ ws) = notes-times a ws
notes-times a (Note to n ∷ ws) = by (same_jid a to) (notes-times a ws) ∙ sym (times-cons a to (notes_to ws))
  where
    by : (b : Bool) → length (notes_in a ws) ≡ times a (notes_to ws) → length (cond b (n ∷ notes_in a ws) (notes_in a ws)) ≡ unit b + times a (notes_to ws)
    by true h = omega (arith, h)
    by false h = omega (arith, h)

-- one of another host is not among them
none-of : (side : Bool) (a : Jid) (xs : List Jid) → bytes_eq (host_of side) a.host ≡ false → Each (λ (j : Jid). j.host ≡ host_of side) xs → times a xs ≡ 0
none-of side a [] far are = refl
none-of side a (x ∷ xs) far are =
    let h = none-of side a xs far are.1 in
    let p = times-cons a x xs in
    let z = ap unit (by (same_jid a x) refl) in
    omega (arith, h, p, z)
  where
    by : (b : Bool) → same_jid a x ≡ b → b ≡ false
    by true e = absurd (true≢false (sym ((bytes_eq-Decides (host_of side) a.host).1 (sym are.0 ∙ ap (λ (j : Jid). j.host) (sym ((same_jid-Decides a x).0 e)))) ∙ far))
    by false e = refl

words-to : (host : List ℕ) (ws : List Word) → Each (IsTo host) ws → Each (λ (j : Jid). j.host ≡ host) (notes_to ws)
words-to host [] are = tt
words-to host (Reply text ∷ ws) are = words-to host ws are.1
words-to host (Note to n ∷ ws) are = (are.0, words-to host ws are.1)

-- ---- whom all notices are to

of-more : (r : List ℕ) (xs ys : List Notice) → of_bare r xs ++ of_bare r ys ≡ of_bare r (xs ++ ys)
of-more [] xs ys = refl
of-more (x ∷ r) xs ys = refl

of-none : (r : List ℕ) → of_bare r [] ≡ []
of-none [] = refl
of-none (x ∷ r) = refl

pub notices-made : (a : Jid) (E : List Entry) (s : State) → notices_from s E a ≡ to_address a (made_from s E)
notices-made a [] s = sym (of-none a.resource)
notices-made a (e ∷ E) s =
    ap (λ (ns : List Notice). to_address a (notices_at s e) ++ ns) (notices-made a E (after s e))
    ∙ of-more a.resource (filter (λ n. same_bare n.to a) (notices_at s e)) (filter (λ n. same_bare n.to a) (made_from (after s e) E))
    ∙ ap (of_bare a.resource) (sym (filter-more (λ (n : Notice). same_bare n.to a) (notices_at s e) (made_from (after s e) E)))

abbrev tos : List Notice → List Jid
tos ns = map (λ n. n.to) ns

bare-times : (a : Jid) → a.resource ≡ [] → (ns : List Notice) → Each (λ (n : Notice). IsGuest n.to) ns → length (filter (λ (n : Notice). same_bare n.to a) ns) ≡ times a (tos ns)
bare-times a bare [] are = refl
bare-times a bare (n ∷ ns) are = by (same_bare n.to a) (same_jid a n.to) refl refl (bare-times a bare ns are.1) ∙ sym (times-cons a n.to (tos ns))
  where
    by : (b c : Bool) → same_bare n.to a ≡ b → same_jid a n.to ≡ c → length (filter (λ (n : Notice). same_bare n.to a) ns) ≡ times a (tos ns)
        → length (cond b (n ∷ filter (λ (n : Notice). same_bare n.to a) ns) (filter (λ (n : Notice). same_bare n.to a) ns)) ≡ unit c + times a (tos ns)
    by true true e f h = omega (arith, h)
    by false false e f h = omega (arith, h)
    by true false e f h =
        let p = (same_bare-Decides n.to a).0 e in
        absurd (true≢false (sym ((same_jid-Decides a n.to).1 (same_parts a n.to (sym p.0) (sym p.1) (bare ∙ sym are.0.bare))) ∙ f))
    by false true e f h =
        let same : a ≡ n.to = (same_jid-Decides a n.to).0 f in
        absurd (true≢false (sym ((same_bare-Decides n.to a).1 (ap (λ (j : Jid). j.local) (sym same), ap (λ (j : Jid). j.host) (sym same))) ∙ e))

full-times : (a : Jid) (x : ℕ) (r : List ℕ) → a.resource ≡ x ∷ r → (ns : List Notice) → Each (λ (n : Notice). IsGuest n.to) ns → times a (tos ns) ≡ 0
full-times a x r full [] are = refl
full-times a x r full (n ∷ ns) are =
    let h = full-times a x r full ns are.1 in
    let p = times-cons a n.to (tos ns) in
    let z = ap unit (by (same_jid a n.to) refl) in
    omega (arith, h, p, z)
  where
    by : (b : Bool) → same_jid a n.to ≡ b → b ≡ false
    by true e = absurd (let no : x ∷ r ≡ [] = sym full ∙ ap (λ (j : Jid). j.resource) ((same_jid-Decides a n.to).0 e) ∙ are.0.bare in cc no)
    by false e = refl

address-times : (a : Jid) (ns : List Notice) → Each (λ (n : Notice). IsGuest n.to) ns → length (to_address a ns) ≡ times a (tos ns)
address-times a ns are = by a.resource refl
  where
    by : (r : List ℕ) → a.resource ≡ r → length (of_bare r (filter (λ (n : Notice). same_bare n.to a) ns)) ≡ times a (tos ns)
    by [] e = bare-times a e ns are
    by (x ∷ r) e = sym (full-times a x r e ns are)

-- ---- each host's

abbrev at_host : Bool → List Jid → List Jid
at_host side xs = filter (λ (j : Jid). bytes_eq (host_of side) j.host) xs

at-host : (side : Bool) (xs : List Jid) → Each (λ (j : Jid). j.host ≡ host_of side) (at_host side xs)
at-host side [] = tt
at-host side (x ∷ xs) = by (bytes_eq (host_of side) x.host) refl (at-host side xs)
  where
    by : (b : Bool) → bytes_eq (host_of side) x.host ≡ b → Each (λ (j : Jid). j.host ≡ host_of side) (at_host side xs)
        → Each (λ (j : Jid). j.host ≡ host_of side) (cond b (x ∷ at_host side xs) (at_host side xs))
    by true e more = (sym ((bytes_eq-Decides (host_of side) x.host).0 e), more)
    by false e more = more

sides-of : (ns : List Notice) → Each (λ (n : Notice). IsGuest n.to) ns → length (at_host true (tos ns)) + length (at_host false (tos ns)) ≡ length ns
sides-of [] are = refl
sides-of (n ∷ ns) are =
    subst
    (λ (h : List ℕ). length (cond (bytes_eq (host_of true) h) (n.to ∷ at_host true (tos ns)) (at_host true (tos ns))) + length
    (cond (bytes_eq (host_of false) h) (n.to ∷ at_host false (tos ns)) (at_host false (tos ns))) ≡ suc (length ns))
    (sym are.0.host) (by are.0.side (sides-of ns are.1))
  where
    by : (side : Bool) → length (at_host true (tos ns)) + length (at_host false (tos ns)) ≡ length ns
        → length (cond (bytes_eq (host_of true) (host_of side)) (n.to ∷ at_host true (tos ns)) (at_host true (tos ns))) + length
        (cond (bytes_eq (host_of false) (host_of side)) (n.to ∷ at_host false (tos ns)) (at_host false (tos ns))) ≡ suc (length ns)
    by true h = omega (arith, h)
    by false h = omega (arith, h)

-- what is said for a host is as much as its addresses are owed
host-notes : (side : Bool) (ws : List Word) (ns : List Notice) → Each (λ (n : Notice). IsGuest n.to) ns → Each (IsTo (host_of side)) ws
    → ((a : Jid) → a.host ≡ host_of side → notes_in a ws ≡ to_address a ns) → count_by is_note ws ≡ length (at_host side (tos ns))
host-notes side ws ns are own same = notes-count ws ∙ same-length (notes_to ws) (at_host side (tos ns)) (λ a. by a (bytes_eq (host_of side) a.host) refl)
  where
    by : (a : Jid) (b : Bool) → bytes_eq (host_of side) a.host ≡ b → times a (notes_to ws) ≡ times a (at_host side (tos ns))
    by a true e =
        sym (notes-times a ws) ∙ ap (λ (ms : List Notice). length ms) (same a (sym ((bytes_eq-Decides (host_of side) a.host).0 e))) ∙ address-times a ns are
        ∙ sym (seen-count (λ (j : Jid). bytes_eq (host_of side) j.host) (same_jid a) (λ j h. ap (λ (i : Jid). bytes_eq (host_of side) i.host) (sym ((same_jid-Decides a j).0 h)) ∙ e) (tos ns))
    by a false e = none-of side a (notes_to ws) e (words-to (host_of side) ws own) ∙ sym (none-of side a (at_host side (tos ns)) e (at-host side (tos ns)))

-- of both hosts
pub both-notes : (ws vs : List Word) (E : List Entry) (s : State) → Each (λ (n : Notice). IsGuest n.to) (made_from s E) → Each (IsTo (host_of true)) ws → Each (IsTo (host_of false)) vs
    → ((a : Jid) → a.host ≡ host_of true → notes_in a ws ≡ notices_from s E a) → ((a : Jid) → a.host ≡ host_of false → notes_in a vs ≡ notices_from s E a)
    → count_by is_note ws + count_by is_note vs ≡ length (made_from s E)
both-notes ws vs E s are own own2 same same2 =
    let p = host-notes true ws (made_from s E) are own (λ a at. same a at ∙ notices-made a E s) in
    let q = host-notes false vs (made_from s E) are own2 (λ a at. same2 a at ∙ notices-made a E s) in
    let r = sides-of (made_from s E) are in
    omega (arith, p, q, r)

-- ---- all of them go to accounts of the hosts

each-more : (xs ys : List Notice) → Each (λ (n : Notice). IsGuest n.to) xs → Each (λ (n : Notice). IsGuest n.to) ys → Each (λ (n : Notice). IsGuest n.to) (xs ++ ys)
each-more [] ys a b = b
each-more (x ∷ xs) ys a b = (a.0, each-more xs ys a.1 b)

pub made-guests : (seed : ℕ) (F : List Entry) (s : State) → Fits s.book → Sound seed s F → Each (λ (n : Notice). IsGuest n.to) (made_from s F)
made-guests seed [] s fits sound = tt
made-guests seed (e ∷ F) s fits sound =
    each-more (notices_at s e) (made_from (after s e) F) (entry-guests seed s fits e sound.1 sound.0) (made-guests seed F (after s e) (entry-fits seed s fits e sound.1 sound.0) sound.2)
