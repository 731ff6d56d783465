-- The items of a node as a copy has them, where items come and go.
use Rattle.std.proofs.Common.{◌≡◌, ℕ, ◌+◌, ◌≤◌, Bool, true, false, cond, ◌&&◌, not, List, [], ◌∷◌, ◌++◌, map, reverse, Option, Some, None, refl, sym, ap, subst, ◌∙◌, arith}
use Rattle.std.specs.Prelude.{find, nat_le, count_by, bytes_eq}
use Rattle.std.specs.List.{AllByRecursion as Each}
use Rattle.std.proofs.lemmas.Grind.{reverse_onto}
use Rattle.std.proofs.lemmas.Slice.Eq.{bytes_eq-Decides}
use Rattle.ps_base.specs.Rows.{keep_newest, without}
use Rattle.ps_base.proofs.Rows.{count_by-cons, keep_newest-all}
use Rattle.ps_types.specs.declared.node.NodeKey.{NodeKey}
use Rattle.ps_types.specs.declared.rows.ItemRow.{ItemRow}
use Rattle.ps_types.specs.Items.{is_item_at, is_item_of, items_of, items_with}
use Rattle.ps_types.specs.Same.{same_node}
use Rattle.ps_types.proofs.Same.{same_node-Decides, same_node-itself}
use Rattle.ps_book_laws.specs.Keys.{AreApart, item_key}
use Rattle.ps_book_laws.proofs.Keys.{apart-filter}
use Rattle.ps_mirror.specs.declared.copied.Copied.{Copied}
use Rattle.ps_mirror.specs.Copy.{each_one, has_id, items_after}
use Rattle.ps_mirror.specs.declared.said.Said.TheVariants.{Published}
use Rattle.ps_mirror_laws.specs.Laws.{copied}

abbrev pub shown : NodeKey → List ItemRow → List Copied
shown n rows = map copied (items_of n rows)

-- ---- how many

module _ (n : NodeKey) where
  count-step : (r : ItemRow) (rows : List ItemRow) (b : Bool) → count_by each_one (shown n rows) ≡ count_by (is_item_at n) rows
      → count_by each_one (map copied (cond b (r ∷ items_of n rows) (items_of n rows))) ≡ cond b 1 0 + count_by (is_item_at n) rows
  count-step r rows true h = count_by-cons each_one (copied r) (shown n rows) ∙ ap (λ k. 1 + k) h
  count-step r rows false h = h ∙ (let e : count_by (is_item_at n) rows ≡ 0 + count_by (is_item_at n) rows = omega arith in e)

  pub count-shown : (rows : List ItemRow) → count_by each_one (shown n rows) ≡ count_by (is_item_at n) rows
  count-shown [] = refl
  count-shown (r ∷ rows) = count-step r rows (is_item_at n r) (count-shown rows) ∙ sym (count_by-cons (is_item_at n) r rows)

  -- ---- the newest

  newest-step : (most : ℕ) (r : ItemRow) (rows : List ItemRow) (b m : Bool) → is_item_at n r ≡ b → nat_le most (count_by (is_item_at n) rows) ≡ m
      → shown n (keep_newest (is_item_at n) most rows) ≡ keep_newest each_one most (shown n rows)
      → shown n (cond (b && m) (keep_newest (is_item_at n) most rows) (r ∷ keep_newest (is_item_at n) most rows)) ≡ keep_newest each_one most
      (map copied (cond b (r ∷ items_of n rows) (items_of n rows)))
  newest-step most r rows true true e f h = rw (count-shown rows, f) h
  newest-step most r rows true false e f h = rw (count-shown rows, f, e) (ap (λ (xs : List Copied). copied r ∷ xs) h)
  newest-step most r rows false m e f h = rw e h

  pub newest-shown : (most : ℕ) (rows : List ItemRow) → shown n (keep_newest (is_item_at n) most rows) ≡ keep_newest each_one most (shown n rows)
  newest-shown most [] = refl
  newest-shown most (r ∷ rows) = newest-step most r rows (is_item_at n r) (nat_le most (count_by (is_item_at n) rows)) refl refl (newest-shown most rows)

  -- ---- an item that goes, and all

  without-step : (id : List ℕ) (r : ItemRow) (rows : List ItemRow) (a c : Bool) → same_node n r.node ≡ a → bytes_eq id r.id ≡ c
      → shown n (without (is_item_of n id) rows) ≡ without (has_id id) (shown n rows)
      → shown n (cond (not (a && c)) (r ∷ without (is_item_of n id) rows) (without (is_item_of n id) rows)) ≡ without (has_id id) (map copied (cond a (r ∷ items_of n rows) (items_of n rows)))
  without-step id r rows true true e f h = rw f h
  without-step id r rows true false e f h = rw (f, e) (ap (λ (xs : List Copied). copied r ∷ xs) h)
  without-step id r rows false c e f h = rw e h

  pub without-shown : (id : List ℕ) (rows : List ItemRow) → shown n (without (is_item_of n id) rows) ≡ without (has_id id) (shown n rows)
  without-shown id [] = refl
  without-shown id (r ∷ rows) = without-step id r rows (same_node n r.node) (bytes_eq id r.id) refl refl (without-shown id rows)

  gone-step : (r : ItemRow) (rows : List ItemRow) (b : Bool) → is_item_at n r ≡ b → items_of n (without (is_item_at n) rows) ≡ []
      → items_of n (cond (not b) (r ∷ without (is_item_at n) rows) (without (is_item_at n) rows)) ≡ []
  gone-step r rows true e h = h
  gone-step r rows false e h = rw e h

  pub gone-shown : (rows : List ItemRow) → items_of n (without (is_item_at n) rows) ≡ []
  gone-shown [] = refl
  gone-shown (r ∷ rows) = gone-step r rows (is_item_at n r) refl (gone-shown rows)

-- ---- an item that comes

push-step : (row r : ItemRow) (rows : List ItemRow) (b : Bool) → shown row.node (rows ++ row ∷ []) ≡ shown row.node rows ++ copied row ∷ []
    → map copied (cond b (r ∷ items_of row.node (rows ++ row ∷ [])) (items_of row.node (rows ++ row ∷ []))) ≡ map copied
    (cond b (r ∷ items_of row.node rows) (items_of row.node rows)) ++ copied row ∷ []
push-step row r rows true h = ap (λ (xs : List Copied). copied r ∷ xs) h
push-step row r rows false h = h

push-shown : (row : ItemRow) (rows : List ItemRow) → shown row.node (rows ++ row ∷ []) ≡ shown row.node rows ++ copied row ∷ []
push-shown row [] = rw (same_node-itself row.node) refl
push-shown row (r ∷ rows) = push-step row r rows (is_item_at row.node r) (push-shown row rows)

pub put-shown : (row : ItemRow) (most : ℕ) (rows : List ItemRow) → shown row.node (items_with row most rows) ≡ items_after most (Published (copied row)) (shown row.node rows)
put-shown row most rows =
    newest-shown row.node most (without (is_item_of row.node row.id) rows ++ row ∷ [])
    ∙ ap (λ (xs : List Copied). keep_newest each_one most xs) (push-shown row (without (is_item_of row.node row.id) rows)
    ∙ ap (λ (xs : List Copied). xs ++ copied row ∷ []) (without-shown row.node row.id rows))

-- ---- items of other nodes

module _ (n m : NodeKey) (apart : same_node n m ≡ false) where
  other : (r : ItemRow) → same_node m r.node ≡ true → same_node n r.node ≡ false
  other r h = ap (same_node n) (sym ((same_node-Decides m r.node).0 h)) ∙ apart

  but-id-step : (id : List ℕ) (r : ItemRow) (rows : List ItemRow) (a c : Bool) → same_node m r.node ≡ a → items_of n (without (is_item_of m id) rows) ≡ items_of n rows
      → items_of n (cond (not (a && c)) (r ∷ without (is_item_of m id) rows) (without (is_item_of m id) rows)) ≡ cond (same_node n r.node) (r ∷ items_of n rows) (items_of n rows)
  but-id-step id r rows true true e h = rw (other r e) h
  but-id-step id r rows true false e h = ap (λ (xs : List ItemRow). cond (same_node n r.node) (r ∷ xs) xs) h
  but-id-step id r rows false c e h = ap (λ (xs : List ItemRow). cond (same_node n r.node) (r ∷ xs) xs) h

  pub but-id : (id : List ℕ) (rows : List ItemRow) → items_of n (without (is_item_of m id) rows) ≡ items_of n rows
  but-id id [] = refl
  but-id id (r ∷ rows) = but-id-step id r rows (same_node m r.node) (bytes_eq id r.id) refl (but-id id rows)

  but-all-step : (r : ItemRow) (rows : List ItemRow) (a : Bool) → same_node m r.node ≡ a → items_of n (without (is_item_at m) rows) ≡ items_of n rows
      → items_of n (cond (not a) (r ∷ without (is_item_at m) rows) (without (is_item_at m) rows)) ≡ cond (same_node n r.node) (r ∷ items_of n rows) (items_of n rows)
  but-all-step r rows true e h = rw (other r e) h
  but-all-step r rows false e h = ap (λ (xs : List ItemRow). cond (same_node n r.node) (r ∷ xs) xs) h

  pub but-all : (rows : List ItemRow) → items_of n (without (is_item_at m) rows) ≡ items_of n rows
  but-all [] = refl
  but-all (r ∷ rows) = but-all-step r rows (same_node m r.node) refl (but-all rows)

  but-newest-step : (most : ℕ) (r : ItemRow) (rows : List ItemRow) (a c : Bool) → same_node m r.node ≡ a → items_of n (keep_newest (is_item_at m) most rows) ≡ items_of n rows
      → items_of n (cond (a && c) (keep_newest (is_item_at m) most rows) (r ∷ keep_newest (is_item_at m) most rows)) ≡ cond (same_node n r.node) (r ∷ items_of n rows) (items_of n rows)
  but-newest-step most r rows true true e h = rw (other r e) h
  but-newest-step most r rows true false e h = ap (λ (xs : List ItemRow). cond (same_node n r.node) (r ∷ xs) xs) h
  but-newest-step most r rows false c e h = ap (λ (xs : List ItemRow). cond (same_node n r.node) (r ∷ xs) xs) h

  pub but-newest : (most : ℕ) (rows : List ItemRow) → items_of n (keep_newest (is_item_at m) most rows) ≡ items_of n rows
  but-newest most [] = refl
  but-newest most (r ∷ rows) = but-newest-step most r rows (same_node m r.node) (nat_le most (count_by (is_item_at m) rows)) refl (but-newest most rows)

  but-push : (row : ItemRow) (rows : List ItemRow) → same_node n row.node ≡ false → items_of n (rows ++ row ∷ []) ≡ items_of n rows
  but-push row [] e = rw e refl
  but-push row (r ∷ rows) e = ap (λ (xs : List ItemRow). cond (same_node n r.node) (r ∷ xs) xs) (but-push row rows e)

pub but-put : (n : NodeKey) (row : ItemRow) → same_node n row.node ≡ false → (most : ℕ) (rows : List ItemRow) → items_of n (items_with row most rows) ≡ items_of n rows
but-put n row e most rows =
    but-newest n row.node e most (without (is_item_of row.node row.id) rows ++ row ∷ []) ∙ but-push n row.node e row (without (is_item_of row.node row.id) rows) e ∙ but-id n row.node e row.id rows

-- ---- the last item told again

module _ (n : NodeKey) where
  or_else : Option ItemRow → Option ItemRow → Option ItemRow
  or_else None q = q
  or_else (Some x) q = Some x

  found-step : (x r : ItemRow) (xs : List ItemRow) (b : Bool) → find (is_item_at n) (xs ++ r ∷ []) ≡ or_else (find (is_item_at n) xs) (cond (is_item_at n r) (Some r) None)
      → cond b (Some x) (find (is_item_at n) (xs ++ r ∷ [])) ≡ or_else (cond b (Some x) (find (is_item_at n) xs)) (cond (is_item_at n r) (Some r) None)
  unfolding or_else
  found-step x r xs true h = refl
  found-step x r xs false h = h

  found-push : (xs : List ItemRow) (r : ItemRow) → find (is_item_at n) (xs ++ r ∷ []) ≡ or_else (find (is_item_at n) xs) (cond (is_item_at n r) (Some r) None)
  unfolding or_else
  found-push [] r = refl
  found-push (x ∷ xs) r = found-step x r xs (is_item_at n x) (found-push xs r)

  pub record IsLastOf (rows : List ItemRow) (x : ItemRow) : Type 0 where
    pub before : List ItemRow
    pub is : items_of n rows ≡ before ++ x ∷ []

  abbrev pub LastOr : List ItemRow → Option ItemRow → Type 0
  LastOr rows None = items_of n rows ≡ []
  LastOr rows (Some x) = IsLastOf rows x

  last-step : (r : ItemRow) (rows : List ItemRow) (o : Option ItemRow) (b : Bool) → is_item_at n r ≡ b → LastOr rows o → LastOr (r ∷ rows) (or_else o (cond b (Some r) None))
  unfolding or_else
  last-step r rows None true e h = record { before = []; is = rw (e, h) refl }
  last-step r rows None false e h = rw e h
  last-step r rows (Some x) true e h = record { before = r ∷ h.before; is = rw e (ap (λ (xs : List ItemRow). r ∷ xs) h.is) }
  last-step r rows (Some x) false e h = record { before = h.before; is = rw e h.is }

  pub last-is : (rows : List ItemRow) → LastOr rows (find (is_item_at n) (reverse rows))
  last-is [] = refl
  last-is (r ∷ rows) =
      subst (LastOr (r ∷ rows)) (sym (ap (λ (xs : List ItemRow). find (is_item_at n) xs) (reverse_onto rows r []) ∙ found-push (reverse rows) r))
      (last-step r rows (find (is_item_at n) (reverse rows)) (is_item_at n r) refl (last-is rows))

  of-node-step : (r : ItemRow) (rows : List ItemRow) (b : Bool) → is_item_at n r ≡ b → Each (λ (y : ItemRow). is_item_at n y ≡ true) (items_of n rows)
      → Each (λ (y : ItemRow). is_item_at n y ≡ true) (cond b (r ∷ items_of n rows) (items_of n rows))
  of-node-step r rows true e h = (e, h)
  of-node-step r rows false e h = h

  of-node : (rows : List ItemRow) → Each (λ (y : ItemRow). is_item_at n y ≡ true) (items_of n rows)
  of-node [] = tt
  of-node (r ∷ rows) = of-node-step r rows (is_item_at n r) refl (of-node rows)

  one-far : (x y : ItemRow) (c : Bool) → is_item_at n x ≡ true → is_item_at n y ≡ true → bytes_eq x.id y.id ≡ c → item_key x y ≡ false → c ≡ false
  one-far x y true p q e far =
      let same : same_node x.node y.node ≡ true = subst (λ (k : NodeKey). same_node k y.node ≡ true) ((same_node-Decides n x.node).0 p) q in
      absurd (let no : true ≡ false = subst (λ (c : Bool). (c && true) ≡ false) same (subst (λ (c : Bool). (same_node x.node y.node && c) ≡ false) e far) in cc no)
  one-far x y false p q e far = refl

  last-passes : (ys : List ItemRow) (x : ItemRow) → Each (λ (y : ItemRow). is_item_at n y ≡ true) (ys ++ x ∷ []) → is_item_at n x ≡ true
  last-passes [] x are = are.0
  last-passes (y ∷ ys) x are = last-passes ys x are.1

  last-far : (ys : List ItemRow) (x y : ItemRow) → Each (λ z. item_key z y ≡ false) (ys ++ x ∷ []) → item_key x y ≡ false
  last-far [] x y are = are.0
  last-far (z ∷ ys) x y are = last-far ys x y are.1

  -- the items but the last one have other ids
  others-stay : (ys : List ItemRow) (x : ItemRow) → is_item_at n x ≡ true → Each (λ (y : ItemRow). is_item_at n y ≡ true) (ys ++ x ∷ []) → AreApart item_key (ys ++ x ∷ [])
      → without (has_id x.id) (map copied (ys ++ x ∷ [])) ≡ map copied ys
  others-stay [] x p are apart = let own : bytes_eq x.id x.id ≡ true = (bytes_eq-Decides x.id x.id).1 refl in rw own refl
  others-stay (y ∷ ys) x p are apart =
      let far : bytes_eq x.id y.id ≡ false = one-far x y (bytes_eq x.id y.id) p are.0 refl (last-far ys x y apart.0) in
      rw far (ap (λ (xs : List Copied). copied y ∷ xs) (others-stay ys x p are.1 apart.1))

  push-copied : (ys : List ItemRow) (x : ItemRow) → map copied (ys ++ x ∷ []) ≡ map copied ys ++ copied x ∷ []
  push-copied [] x = refl
  push-copied (y ∷ ys) x = ap (λ (xs : List Copied). copied y ∷ xs) (push-copied ys x)

  pub again-shown : (most : ℕ) (rows : List ItemRow) (x : ItemRow) → IsLastOf rows x → AreApart item_key rows → count_by (is_item_at n) rows ≤ most
      → items_after most (Published (copied x)) (shown n rows) ≡ shown n rows
  again-shown most rows x last apart few =
      let are = subst (Each (λ (y : ItemRow). is_item_at n y ≡ true)) last.is (of-node rows) in
      let far = subst (AreApart item_key) last.is (apart-filter item_key (is_item_at n) rows apart) in
      let stay = others-stay last.before x (last-passes last.before x are) are far in
      let back = ap (λ (xs : List Copied). xs ++ copied x ∷ []) (ap (λ (xs : List ItemRow). without (has_id x.id) (map copied xs)) last.is ∙ stay) ∙ sym (push-copied last.before x)
      ∙ ap (λ (xs : List ItemRow). map copied xs) (sym last.is) in
      ap (λ (xs : List Copied). keep_newest each_one most xs) back
      ∙ keep_newest-all each_one most (shown n rows) (subst (λ k. k ≤ most) (sym (count-shown n rows)) few)
