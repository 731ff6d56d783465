-- Rows whose keys are their own stay so where rows are put, go, are changed in place, or are pushed.
use Rattle.std.proofs.Common.{◌≡◌, ℕ, Bool, true, false, cond, ◌&&◌, not, List, [], ◌∷◌, ◌++◌, map, Some, refl, sym, ap, ap₂, ◌∙◌, filter}
use Rattle.std.specs.Prelude.{find, is_none, nat_le, count_by, bytes_eq, Decides}
use Rattle.std.proofs.lemmas.Bool.{and_parts, true≢false}
use Rattle.std.proofs.lemmas.Slice.Eq.{bytes_eq-Decides}
use Rattle.ps_base.specs.Rows.{change_row, keep_newest, put_row, without}
use Rattle.ps_types.specs.declared.jid.Jid.{Jid}
use Rattle.ps_types.specs.Same.{same_bare, same_jid, same_node}
use Rattle.ps_types.proofs.Same.{same_jid-Decides, same_node-Decides}
use Rattle.ps_model.proofs.TallyLaws.{same_bare-like, same_bare-turned}
use Rattle.std.specs.List.{AllByRecursion as Each}
use Rattle.ps_book_laws.specs.Keys.{AreApart, affil_key, count_key, item_key, roster_key, sub_key}
use Rattle.ps_types.specs.declared.rows.AffilRow.{AffilRow}
use Rattle.ps_types.specs.declared.rows.CountRow.{CountRow}
use Rattle.ps_types.specs.declared.rows.ItemRow.{ItemRow}
use Rattle.ps_types.specs.declared.rows.RosterRow.{RosterRow}
use Rattle.ps_types.specs.declared.rows.SubRow.{SubRow}

-- ---- what a key is

pub record IsKey {R : Type 0} (same : R → R → Bool) : Type 0 where
  pub turned : (a b : R) → same a b ≡ same b a
  pub like : (a b c : R) → same a b ≡ true → same a c ≡ same b c

module _ {K : Type 0} (test : K → K → Bool) (decides : (a b : K) → Decides (test a b) (a ≡ b)) where
  turned-at : (a b : K) (x y : Bool) → test a b ≡ x → test b a ≡ y → x ≡ y
  turned-at a b true true p q = refl
  turned-at a b false false p q = refl
  turned-at a b true false p q = absurd (true≢false (sym ((decides b a).1 (sym ((decides a b).0 p))) ∙ q))
  turned-at a b false true p q = absurd (true≢false (sym ((decides a b).1 (sym ((decides b a).0 q))) ∙ p))

  pub key-by : {R : Type 0} (of : R → K) → IsKey (λ (a b : R). test (of a) (of b))
  key-by of = record {
    turned = λ a b. turned-at (of a) (of b) (test (of a) (of b)) (test (of b) (of a)) refl refl;
    like = λ a b c e. ap (λ k. test k (of c)) ((decides (of a) (of b)).0 e);
  }

bare-key : {R : Type 0} (of : R → Jid) → IsKey (λ (a b : R). same_bare (of a) (of b))
bare-key of = record { turned = λ a b. same_bare-turned (of a) (of b); like = λ a b c e. same_bare-like (of a) (of b) (of c) e }

key-and : {R : Type 0} (p q : R → R → Bool) → IsKey p → IsKey q → IsKey (λ (a b : R). p a b && q a b)
key-and p q kp kq = record {
  turned = λ a b. ap₂ (λ x y. x && y) (kp.turned a b) (kq.turned a b);
  like = λ a b c e. let parts = and_parts (p a b) (q a b) e in ap₂ (λ x y. x && y) (kp.like a b c parts.0) (kq.like a b c parts.1);
}

pub affil-key : IsKey affil_key
affil-key = key-and (λ a b. same_node a.node b.node) (λ a b. same_bare a.who b.who) (key-by same_node same_node-Decides (λ (r : AffilRow). r.node)) (bare-key (λ (r : AffilRow). r.who))

pub count-key : IsKey count_key
count-key = key-and (λ a b. same_node a.node b.node) (λ a b. same_bare a.who b.who) (key-by same_node same_node-Decides (λ (r : CountRow). r.node)) (bare-key (λ (r : CountRow). r.who))

pub sub-key : IsKey sub_key
sub-key = key-and (λ a b. same_node a.node b.node) (λ a b. same_jid a.who b.who) (key-by same_node same_node-Decides (λ (r : SubRow). r.node))
    (key-by same_jid same_jid-Decides (λ (r : SubRow). r.who))

pub item-key : IsKey item_key
item-key = key-and (λ a b. same_node a.node b.node) (λ a b. bytes_eq a.id b.id) (key-by same_node same_node-Decides (λ (r : ItemRow). r.node))
    (key-by bytes_eq bytes_eq-Decides (λ (r : ItemRow). r.id))

pub roster-key : IsKey roster_key
roster-key = key-and (λ a b. same_bare a.account b.account) (λ a b. same_bare a.contact b.contact) (bare-key (λ (r : RosterRow). r.account)) (bare-key (λ (r : RosterRow). r.contact))

-- ---- lists

module _ {R : Type 0} (P : R → Type 0) where
  each-if : (x : R) (xs : List R) (b : Bool) → P x → Each P xs → Each P (cond b (x ∷ xs) xs)
  each-if x xs true p ps = (p, ps)
  each-if x xs false p ps = ps

  pub each-filter : (q : R → Bool) (xs : List R) → Each P xs → Each P (filter q xs)
  each-filter q [] ps = tt
  each-filter q (x ∷ xs) ps = each-if x (filter q xs) (q x) ps.0 (each-filter q xs ps.1)

  pub each-push : (xs : List R) (row : R) → Each P xs → P row → Each P (xs ++ row ∷ [])
  each-push [] row ps p = (p, tt)
  each-push (x ∷ xs) row ps p = (ps.0, each-push xs row ps.1 p)

  put-if : (x row : R) (xs more : List R) (b : Bool) → P x → P row → Each P xs → Each P more → Each P (cond b (row ∷ xs) (x ∷ more))
  put-if x row xs more true p r ps ms = (r, ps)
  put-if x row xs more false p r ps ms = (p, ms)

  pub each-put : (test : R → Bool) (row : R) (xs : List R) → P row → Each P xs → Each P (put_row test row xs)
  each-put test row [] p ps = (p, tt)
  each-put test row (x ∷ xs) p ps = put-if x row xs (put_row test row xs) (test x) ps.0 p ps.1 (each-put test row xs p ps.1)

  keep-if : (x : R) (xs : List R) (b : Bool) → P x → Each P xs → Each P (cond b xs (x ∷ xs))
  keep-if x xs true p ps = ps
  keep-if x xs false p ps = (p, ps)

  pub each-keep : (test : R → Bool) (most : ℕ) (xs : List R) → Each P xs → Each P (keep_newest test most xs)
  each-keep test most [] ps = tt
  each-keep test most (x ∷ xs) ps = keep-if x (keep_newest test most xs) (test x && nat_le most (count_by test xs)) ps.0 (each-keep test most xs ps.1)

  pub each-change : (test : R → Bool) (f : R → R) (xs : List R) → ((x : R) → P x → P (f x)) → Each P xs → Each P (change_row test f xs)
  each-change test f [] fs ps = tt
  each-change test f (x ∷ xs) fs ps = put-if x (f x) xs (change_row test f xs) (test x) ps.0 (fs x ps.0) ps.1 (each-change test f xs fs ps.1)

  pub each-by : (Q : R → Type 0) (xs : List R) → ((x : R) → Q x → P x) → Each Q xs → Each P xs
  each-by Q [] f qs = tt
  each-by Q (x ∷ xs) f qs = (f x qs.0, each-by Q xs f qs.1)

  pub each-all : ((x : R) → P x) → (xs : List R) → Each P xs
  each-all ps [] = tt
  each-all ps (x ∷ xs) = (ps x, each-all ps xs)

  pub each-both : (xs ys : List R) → Each P xs → Each P ys → Each P (xs ++ ys)
  each-both [] ys ps qs = qs
  each-both (x ∷ xs) ys ps qs = (ps.0, each-both xs ys ps.1 qs)

  pub each-cond : (b : Bool) (xs ys : List R) → Each P xs → Each P ys → Each P (cond b xs ys)
  each-cond true xs ys ps qs = ps
  each-cond false xs ys ps qs = qs

  pub each-map : {T : Type 0} (f : T → R) (rows : List T) → Each (λ t. P (f t)) rows → Each P (map f rows)
  each-map f [] ps = tt
  each-map f (t ∷ rows) ps = (ps.0, each-map f rows ps.1)

  pub each-mapped : {T : Type 0} (f : T → R) (rows : List T) → Each P (map f rows) → Each (λ t. P (f t)) rows
  each-mapped f [] ps = tt
  each-mapped f (t ∷ rows) ps = (ps.0, each-mapped f rows ps.1)

module _ {R : Type 0} (same : R → R → Bool) where
  Far : R → R → Type 0
  Far x y = same y x ≡ false

  apart-if : (x : R) (xs : List R) (b : Bool) → Each (λ y. same y x ≡ false) xs → AreApart same xs → AreApart same (cond b (x ∷ xs) xs)
  apart-if x xs true p ps = (p, ps)
  apart-if x xs false p ps = ps

  pub apart-filter : (q : R → Bool) (xs : List R) → AreApart same xs → AreApart same (filter q xs)
  apart-filter q [] is = tt
  apart-filter q (x ∷ xs) is = apart-if x (filter q xs) (q x) (each-filter (λ y. same y x ≡ false) q xs is.0) (apart-filter q xs is.1)

  push-at : (x row : R) (xs : List R) (b : Bool) → same row x ≡ b → is_none (cond b (Some x) (find (same row) xs)) ≡ true → (same row x ≡ false) × (is_none (find (same row) xs) ≡ true)
  push-at x row xs true e h = absurd (cc h)
  push-at x row xs false e h = (e, h)

  pub apart-push : (xs : List R) (row : R) → is_none (find (same row) xs) ≡ true → AreApart same xs → AreApart same (xs ++ row ∷ [])
  apart-push [] row none is = (tt, tt)
  apart-push (x ∷ xs) row none is =
      let p = push-at x row xs (same row x) refl none in
      (each-push (λ y. same y x ≡ false) xs row is.0 p.0, apart-push xs row p.1 is.1)

  gone-at : (t : R → Bool) (x : R) (xs : List R) (b : Bool) → t x ≡ b → is_none (find t (filter (λ y. not (t y)) xs)) ≡ true
      → is_none (find t (cond (not b) (x ∷ filter (λ y. not (t y)) xs) (filter (λ y. not (t y)) xs))) ≡ true
  gone-at t x xs true e h = h
  gone-at t x xs false e h = ap (λ b. is_none (cond b (Some x) (find t (filter (λ y. not (t y)) xs)))) e ∙ h

  pub gone : (t : R → Bool) (xs : List R) → is_none (find t (without t xs)) ≡ true
  gone t [] = refl
  gone t (x ∷ xs) = gone-at t x xs (t x) refl (gone t xs)

  keep-apart-if : (x : R) (xs : List R) (b : Bool) → Each (λ y. same y x ≡ false) xs → AreApart same xs → AreApart same (cond b xs (x ∷ xs))
  keep-apart-if x xs true p ps = ps
  keep-apart-if x xs false p ps = (p, ps)

  pub apart-keep : (test : R → Bool) (most : ℕ) (xs : List R) → AreApart same xs → AreApart same (keep_newest test most xs)
  apart-keep test most [] is = tt
  apart-keep test most (x ∷ xs) is =
      keep-apart-if x (keep_newest test most xs) (test x && nat_le most (count_by test xs)) (each-keep (λ y. same y x ≡ false) test most xs is.0) (apart-keep test most xs is.1)

  change-at : (f : R → R) (x : R) (xs more : List R) (b : Bool) → ((y : R) → same y (f x) ≡ same y x) → Each (λ y. same y x ≡ false) xs → Each (λ y. same y x ≡ false) more → AreApart same xs
      → AreApart same more
      → AreApart same (cond b (f x ∷ xs) (x ∷ more))
  change-at f x xs more true at far far' is is' = (each-by (λ y. same y (f x) ≡ false) (λ y. same y x ≡ false) xs (λ y h. at y ∙ h) far, is)
  change-at f x xs more false at far far' is is' = (far', is')

  pub apart-change : (test : R → Bool) (f : R → R) → ((y x : R) → same y (f x) ≡ same y x) → ((y x : R) → same (f y) x ≡ same y x) → (xs : List R) → AreApart same xs
      → AreApart same (change_row test f xs)
  apart-change test f right left [] is = tt
  apart-change test f right left (x ∷ xs) is =
      change-at f x xs (change_row test f xs) (test x) (λ y. right y x) is.0 (each-change (λ y. same y x ≡ false) test f xs (λ y h. left y x ∙ h) is.0) is.1 (apart-change test f right left xs is.1)

  module _ (key : IsKey same) where
    put-at : (x row : R) (xs : List R) (b : Bool) → same row x ≡ b → Each (λ y. same y x ≡ false) xs → AreApart same xs → AreApart same (put_row (same row) row xs)
        → AreApart same (cond b (row ∷ xs) (x ∷ put_row (same row) row xs))
    put-at x row xs true e far is more = (each-by (λ y. same y row ≡ false) (λ y. same y x ≡ false) xs (λ y h. key.turned y row ∙ key.like row x y e ∙ key.turned x y ∙ h) far, is)
    put-at x row xs false e far is more = (each-put (λ y. same y x ≡ false) (same row) row xs e far, more)

    pub apart-put : (row : R) (xs : List R) → AreApart same xs → AreApart same (put_row (same row) row xs)
    apart-put row [] is = (tt, tt)
    apart-put row (x ∷ xs) is = put-at x row xs (same row x) refl is.0 is.1 (apart-put row xs is.1)
