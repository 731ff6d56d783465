-- One stanza more on the stream of its host.
use Rattle.std.proofs.Common.{
  ◌≡◌,
  ◌≢◌,
  ℕ,
  zero,
  suc,
  ◌+◌,
  ◌%◌,
  ◌≤◌,
  Bool,
  true,
  false,
  cond,
  List,
  [],
  ◌∷◌,
  ◌++◌,
  length,
  get_or,
  refl,
  sym,
  ap,
  subst,
  ◌∙◌,
  arith,
  add-one,
  append_assoc,
  append-nil,
  length-append,
}
use Rattle.std.specs.Prelude.{Err, Ok, OnOk, Result, ◌==◌}
use Rattle.std.specs.List.{AllByRecursion}
use Rattle.std.proofs.lemmas.Bool.Decides.{nat_tests}
use Rattle.ps_types.specs.Form.{max_levels}
use Rattle.ps_types.specs.Print.{print}
use Rattle.ps_types.specs.Tree.{Tree, levels}
use Rattle.ps_gen.specs.Dealt.{asked, drawn, generated, host_name, kind_of, kinds, node_of, who_of}
use Rattle.ps_gen.specs.declared.dealt.Generated.{Generated}
use Rattle.ps_rehearse_lines.specs.Dealing.{HasDealt, IsShort, dealt, dealt_at, lines_of}

-- ---- a stanza is shallow

-- of each kind
levels-at : (i : ℕ) (who node : List ℕ) (v : ℕ) → levels (asked (get_or kinds i (kind_of 7)) who node v) ≤ 8
levels-at zero who node v = omega arith
levels-at (suc zero) who node v = omega arith
levels-at (suc (suc zero)) who node v = omega arith
levels-at (suc (suc (suc zero))) who node v = omega arith
levels-at (suc (suc (suc (suc zero)))) who node v = omega arith
levels-at (suc (suc (suc (suc (suc zero))))) who node v = omega arith
levels-at (suc (suc (suc (suc (suc (suc zero)))))) who node v = omega arith
levels-at (suc (suc (suc (suc (suc (suc (suc zero))))))) who node v = omega arith
levels-at (suc (suc (suc (suc (suc (suc (suc (suc i)))))))) who node v = omega arith

pub generated-levels : (seed k : ℕ) → levels (generated seed k).tree ≤ max_levels
generated-levels seed k =
    let v = drawn seed k in
    let few = levels-at (v % 8) (who_of (host_name k) v) (node_of (host_name k) v) v in
    omega (arith, few)

-- ---- lines

lines-push : (ts : List Tree) (t : Tree) → lines_of (ts ++ t ∷ []) ≡ lines_of ts ++ (print t ++ 10 ∷ [])
lines-push [] t = refl
lines-push (x ∷ ts) t =
    ap (λ (l : List ℕ). print x ++ (10 ∷ l)) (lines-push ts t) ∙ sym (append_assoc (print x) (10 ∷ lines_of ts) (print t ++ 10 ∷ []))

all-push : (ts : List Tree) (t : Tree) → AllByRecursion IsShort ts → IsShort t → AllByRecursion IsShort (ts ++ t ∷ [])
all-push [] t all is = (is, tt)
all-push (x ∷ ts) t all is = (all.0, all-push ts t all.1 is)

-- ---- places

dealt-more : (host seed k : ℕ) → dealt host seed (k + 1) ≡ dealt host seed k ++ dealt_at host seed k
unfolding dealt
dealt-more host seed k = rw add-one refl

at-host : (host seed k : ℕ) → (generated seed k).host ≡ host → dealt_at host seed k ≡ (generated seed k).tree ∷ []
unfolding dealt_at
at-host host seed k is = let yes : ((generated seed k).host == host) ≡ true = grind (arith, nat_tests) in rw yes refl

at-other : (host seed k : ℕ) → (generated seed k).host ≢ host → dealt_at host seed k ≡ []
unfolding dealt_at
at-other host seed k not = let no : ((generated seed k).host == host) ≡ false = grind (arith, nat_tests) in rw no refl

pub dealt-none : (host seed : ℕ) → HasDealt host seed 0 []
unfolding dealt
dealt-none host seed = record { is = refl; short = tt }

pub dealt-here : (host seed k : ℕ) (bytes now : List ℕ) (g : Generated) → g ≡ generated seed k → g.host ≡ host → IsShort g.tree
    → now ≡ bytes ++ (print g.tree ++ 10 ∷ []) → HasDealt host seed k bytes → HasDealt host seed (k + 1) now
dealt-here host seed k bytes now g is here short grown so_far =
    let t = (generated seed k).tree in
    let more : dealt host seed (k + 1) ≡ dealt host seed k ++ t ∷ [] =
    dealt-more host seed k ∙ ap (λ (l : List Tree). dealt host seed k ++ l) (at-host host seed k (ap (λ (x : Generated). x.host) (sym is) ∙ here)) in
    let short_t : IsShort t = subst (λ (x : Generated). IsShort x.tree) is short in
    record {
      is =
          grown ∙ (ap (λ (l : List ℕ). l ++ (print g.tree ++ 10 ∷ [])) so_far.is
          ∙ (ap (λ (x : Generated). lines_of (dealt host seed k) ++ (print x.tree ++ 10 ∷ [])) is
          ∙ (sym (lines-push (dealt host seed k) t) ∙ ap lines_of (sym more))));
      short = subst (AllByRecursion IsShort) (sym more) (all-push (dealt host seed k) t so_far.short short_t);
    }

pub dealt-elsewhere : (host seed k : ℕ) (bytes : List ℕ) (g : Generated) → g ≡ generated seed k → g.host ≢ host → HasDealt host seed k bytes → HasDealt host seed (k + 1) bytes
dealt-elsewhere host seed k bytes g is not so_far =
    let same : dealt host seed (k + 1) ≡ dealt host seed k =
    dealt-more host seed k ∙ (ap (λ (l : List Tree). dealt host seed k ++ l) (at-other host seed k (λ e. not (ap (λ (x : Generated). x.host) is ∙ e)))
    ∙ append-nil (dealt host seed k)) in
    record { is = so_far.is ∙ ap lines_of (sym same); short = subst (AllByRecursion IsShort) (sym same) so_far.short }

-- the host has one of two numbers
pub second-host : (seed k : ℕ) (g : Generated) → g ≡ generated seed k → g.host ≢ 0 → g.host ≡ 1
second-host seed k g is not = let h : g.host ≡ k % 2 = ap (λ (x : Generated). x.host) is in omega (arith, h, not)

-- ---- there are no more stanzas than places

at-few : (host seed k : ℕ) → length (dealt_at host seed k) ≤ 1
unfolding dealt_at
at-few host seed k = by ((generated seed k).host == host)
  where
    by : (b : Bool) → length (cond b ((generated seed k).tree ∷ []) []) ≤ 1
    by true = omega arith
    by false = omega arith

pub dealt-length : (host seed count : ℕ) → length (dealt host seed count) ≤ count
unfolding dealt
dealt-length host seed zero = omega arith
dealt-length host seed (suc k) =
    let l = length-append (dealt host seed k) (dealt_at host seed k) in
    let few = dealt-length host seed k in
    let one = at-few host seed k in
    omega (arith, l, few, one)

pub on-ok : {T E P Q : Type 0} (r : Result T E) → (P → Q) → OnOk r P → OnOk r Q
on-ok (Ok x) f p = f p
on-ok (Err e) f p = tt
