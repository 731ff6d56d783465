-- What a change of one address's numbers does to those of another.
use Rattle.std.proofs.Common.{◌≡◌, ℕ, ◌+◌, Bool, true, false, cond, List, [], ◌∷◌, Option, Some, refl, sym, ap, ◌∙◌, arith}
use Rattle.std.specs.Prelude.{find, bytes_eq, ◌&&◌, Decides}
use Rattle.std.proofs.lemmas.Bool.{true≢false}
use Rattle.std.proofs.lemmas.Bool.Decides.{Decides-and}
use Rattle.std.proofs.lemmas.Slice.Eq.{bytes_eq-Decides}
use Rattle.ps_base.specs.Rows.{put_row}
use Rattle.ps_types.specs.Address.{bare}
use Rattle.ps_types.specs.Same.{same_bare}
use Rattle.ps_types.specs.declared.jid.Jid.{Jid}
use Rattle.ps_types.specs.declared.rows.TallyRow.{TallyRow}
use Rattle.ps_model.specs.Tallies.{is_tally_of, made_in, handed_in, made_for, handed_to, tallies_with, more_made, one_handed}

-- ---- bare addresses

pub same_bare-Decides : (a b : Jid) → Decides (same_bare a b) ((a.local ≡ b.local) × (a.host ≡ b.host))
unfolding same_bare
same_bare-Decides a b = Decides-and (bytes_eq a.local b.local) (bytes_eq a.host b.host) (bytes_eq-Decides a.local b.local) (bytes_eq-Decides a.host b.host)

pub same_bare-like : (a b c : Jid) → same_bare a b ≡ true → same_bare a c ≡ same_bare b c
unfolding same_bare
same_bare-like a b c same =
    let p = (same_bare-Decides a b).0 same in
    λ i. bytes_eq (p.0 i) c.local && bytes_eq (p.1 i) c.host

pub same_bare-itself : (a : Jid) → same_bare a a ≡ true
same_bare-itself a = (same_bare-Decides a a).1 (refl, refl)

turned : (a b : Jid) (x y : Bool) → same_bare a b ≡ x → same_bare b a ≡ y → x ≡ y
turned a b true true p q = refl
turned a b false false p q = refl
turned a b true false p q = absurd (true≢false (sym ((same_bare-Decides b a).1 (let d = (same_bare-Decides a b).0 p in (sym d.0, sym d.1))) ∙ q))
turned a b false true p q = absurd (true≢false (sym ((same_bare-Decides a b).1 (let d = (same_bare-Decides b a).0 q in (sym d.0, sym d.1))) ∙ p))

pub same_bare-turned : (a b : Jid) → same_bare a b ≡ same_bare b a
same_bare-turned a b = turned a b (same_bare a b) (same_bare b a) refl refl

-- ---- a row that is put

module _ {R : Type 0} (test other : R → Bool) (row : R) where
  found_at : test row ≡ true → (x : R) (rows : List R) → find test (put_row test row rows) ≡ Some row → (b : Bool) → test x ≡ b → find test (cond b (row ∷ rows) (x ∷ put_row test row rows)) ≡ Some row
  found_at is x rows more true e = rw is refl
  found_at is x rows more false e = rw e more

  pub found : test row ≡ true → (rows : List R) → find test (put_row test row rows) ≡ Some row
  found is [] = rw is refl
  found is (x ∷ rows) = found_at is x rows (found is rows) (test x) refl

  kept_at : other row ≡ false → ((x : R) → test x ≡ true → other x ≡ false) → (x : R) (rows : List R) → find other (put_row test row rows) ≡ find other rows → (b : Bool) → test x ≡ b
      → find other (cond b (row ∷ rows) (x ∷ put_row test row rows)) ≡ cond (other x) (Some x) (find other rows)
  kept_at is apart x rows more true e = rw (is, apart x e) refl
  kept_at is apart x rows more false e = ap (λ (r : Option R). cond (other x) (Some x) r) more

  pub kept : other row ≡ false → ((x : R) → test x ≡ true → other x ≡ false) → (rows : List R) → find other (put_row test row rows) ≡ find other rows
  kept is apart [] = rw is refl
  kept is apart (x ∷ rows) = kept_at is apart x rows (kept is apart rows) (test x) refl

-- ---- the numbers

like : (a who : Jid) → same_bare a who ≡ true → (x : TallyRow) → is_tally_of a x ≡ is_tally_of who x
like a who same x = same_bare-like a who x.who same

apart_from : (a who : Jid) → same_bare a who ≡ false → (x : TallyRow) → is_tally_of who x ≡ true → is_tally_of a x ≡ false
apart_from a who differ x is =
    let t : same_bare x.who who ≡ true = same_bare-turned x.who who ∙ is in
    same_bare-turned a x.who ∙ same_bare-like x.who who a t ∙ same_bare-turned who a ∙ differ

bare_is : (who : Jid) → same_bare who (bare who) ≡ true
bare_is who = (same_bare-Decides who (bare who)).1 (refl, refl)

-- those of the address itself
pub made-set : (a who : Jid) (made handed : ℕ) (rows : List TallyRow) → same_bare a who ≡ true → made_for a (tallies_with who made handed rows) ≡ made
made-set a who made handed rows same =
    ap (λ (test : TallyRow → Bool). made_in (find test (tallies_with who made handed rows))) (λ i x. like a who same x i)
    ∙ ap made_in (found (is_tally_of who) (is_tally_of who) (record { who = bare who; made = made; handed = handed }) (bare_is who) rows)

-- and those of another
pub made-kept : (a who : Jid) (made handed : ℕ) (rows : List TallyRow) → same_bare a who ≡ false → made_for a (tallies_with who made handed rows) ≡ made_for a rows
made-kept a who made handed rows differ =
    let row : TallyRow = record { who = bare who; made = made; handed = handed } in
    let is : is_tally_of a row ≡ false = apart_from a who differ row (bare_is who) in
    ap made_in (kept (is_tally_of who) (is_tally_of a) row is (apart_from a who differ) rows)

pub made-like : (a who : Jid) (rows : List TallyRow) → same_bare a who ≡ true → made_for a rows ≡ made_for who rows
made-like a who rows same = ap (λ (test : TallyRow → Bool). made_in (find test rows)) (λ i x. like a who same x i)

pub made-more : (a who : Jid) (more : ℕ) (rows : List TallyRow) → same_bare a who ≡ true → made_for a (more_made who more rows) ≡ made_for a rows + more
made-more a who more rows same = made-set a who (made_for who rows + more) (handed_to who rows) rows same ∙ ap (λ n. n + more) (sym (made-like a who rows same))

pub made-handed : (a who : Jid) (rows : List TallyRow) → made_for a (one_handed who rows) ≡ made_for a rows
made-handed a who rows = at (same_bare a who) refl
  where
    at : (b : Bool) → same_bare a who ≡ b → made_for a (one_handed who rows) ≡ made_for a rows
    at true e = made-set a who (made_for who rows) (handed_to who rows + 1) rows e ∙ sym (made-like a who rows e)
    at false e = made-kept a who (made_for who rows) (handed_to who rows + 1) rows e

-- ---- the numbers that were handed

pub handed-like : (a who : Jid) (rows : List TallyRow) → same_bare a who ≡ true → handed_to a rows ≡ handed_to who rows
handed-like a who rows same = ap (λ (test : TallyRow → Bool). handed_in (find test rows)) (λ i x. like a who same x i)

pub handed-set : (a who : Jid) (made handed : ℕ) (rows : List TallyRow) → same_bare a who ≡ true → handed_to a (tallies_with who made handed rows) ≡ handed
handed-set a who made handed rows same =
    ap (λ (test : TallyRow → Bool). handed_in (find test (tallies_with who made handed rows))) (λ i x. like a who same x i)
    ∙ ap handed_in (found (is_tally_of who) (is_tally_of who) (record { who = bare who; made = made; handed = handed }) (bare_is who) rows)

pub handed-kept : (a who : Jid) (made handed : ℕ) (rows : List TallyRow) → same_bare a who ≡ false → handed_to a (tallies_with who made handed rows) ≡ handed_to a rows
handed-kept a who made handed rows differ =
    let row : TallyRow = record { who = bare who; made = made; handed = handed } in
    let is : is_tally_of a row ≡ false = apart_from a who differ row (bare_is who) in
    ap handed_in (kept (is_tally_of who) (is_tally_of a) row is (apart_from a who differ) rows)

pub handed-made : (a who : Jid) (more : ℕ) (rows : List TallyRow) → handed_to a (more_made who more rows) ≡ handed_to a rows
handed-made a who more rows = at (same_bare a who) refl
  where
    at : (b : Bool) → same_bare a who ≡ b → handed_to a (more_made who more rows) ≡ handed_to a rows
    at true e = handed-set a who (made_for who rows + more) (handed_to who rows) rows e ∙ sym (handed-like a who rows e)
    at false e = handed-kept a who (made_for who rows + more) (handed_to who rows) rows e

pub handed-one : (a who : Jid) (rows : List TallyRow) (b : Bool) → same_bare a who ≡ b → handed_to a (one_handed who rows) ≡ handed_to a rows + cond b 1 0
handed-one a who rows true e = handed-set a who (made_for who rows) (handed_to who rows + 1) rows e ∙ ap (λ n. n + 1) (sym (handed-like a who rows e))
handed-one a who rows false e = handed-kept a who (made_for who rows) (handed_to who rows + 1) rows e ∙ (let z : handed_to a rows ≡ handed_to a rows + 0 = omega arith in z)
