-- Reports one after the other, up to one that fails.
use Rattle.std.proofs.Common.{◌≡◌, ℕ, ◌≤◌, List, [], ◌∷◌, ◌++◌, Option, refl, sym, ap, ◌∙◌, subst, arith, append_assoc, append-nil, length}
use Rattle.std.specs.Prelude.{OnErr, Result, Ok, Err}
use Rattle.std.specs.Io.KnownBytes.{Appends}
use Rattle.std.proofs.KnownBytes.{Appends-nil, Appends-trans}
use Rattle.ps_base.specs.Causes.{Rose}
use Rattle.ps_io.specs.World.{ReportsFront}
use Rattle.ps_io.specs.declared.world.World.{Ghosts}
use Rattle.ps_status.specs.Telling.{OnlyTells, text_of}

pub front-more : (old new : Option (List ℕ)) (a b : List ℕ) → ReportsFront old new a → ReportsFront old new (a ++ b)
front-more old new a b f = record {
  front = f.front;
  behind = f.behind ++ b;
  split = ap (λ (l : List ℕ). l ++ b) f.split ∙ append_assoc f.front f.behind b;
  adds = f.adds;
}

-- a front behind what was reported
pub front-then : (old mid new : Option (List ℕ)) (a b : List ℕ) → Appends old mid a → ReportsFront mid new b → ReportsFront old new (a ++ b)
front-then old mid new a b first more = record {
  front = a ++ more.front;
  behind = more.behind;
  split = ap (λ (l : List ℕ). a ++ l) more.split ∙ sym (append_assoc a more.front more.behind);
  adds = Appends-trans old mid new a more.front first more.adds;
}

-- the whole is a front
pub front-whole : (old new : Option (List ℕ)) (a : List ℕ) → Appends old new a → ReportsFront old new a
front-whole old new a adds = record { front = a; behind = []; split = sym (append-nil a); adds = adds }

module _ {S R K D C : Type 0} (w : Ghosts S R K D C) where
  pub only-none : (old : S) → OnlyTells w old old
  only-none old = record {
    same_sources = λ n. refl;
    same_sinks = λ n. refl;
    same_stores = λ n. refl;
    same_lefts = λ n t x. (λ was. was, λ is. is);
    same_clocks = λ n. refl;
    asked = refl;
    last = refl;
  }

  pub only-then : (old mid new : S) → OnlyTells w old mid → OnlyTells w mid new → OnlyTells w old new
  only-then old mid new p q = record {
    same_sources = λ n. q.same_sources n ∙ p.same_sources n;
    same_sinks = λ n. q.same_sinks n ∙ p.same_sinks n;
    same_stores = λ n. q.same_stores n ∙ p.same_stores n;
    same_lefts = λ n t x. (λ was. (q.same_lefts n t x).0 ((p.same_lefts n t x).0 was), λ is. (p.same_lefts n t x).1 ((q.same_lefts n t x).1 is));
    same_clocks = λ n. q.same_clocks n ∙ p.same_clocks n;
    asked = q.asked ∙ p.asked;
    last = q.last ∙ p.last;
  }

pub rose-then : (a b c : ℕ) → a ≤ b → Rose b c → Rose a c
rose-then a b c later rose = grind (arith)

pub if-err : {T E P : Type 0} (r : Result T E) → P → OnErr r P
if-err (Ok x) p = tt
if-err (Err e) p = p

-- ---- lines

-- the lines up to these were reported
pub record SoFar (lines rest : List (List ℕ)) (old new : Option (List ℕ)) : Type 0 where
  pub front : List ℕ
  pub adds : Appends old new front
  pub all : text_of lines ≡ front ++ text_of rest

pub empty-list : {X : Type 0} (xs : List X) → length xs ≡ 0 → xs ≡ []
empty-list [] e = refl
empty-list (x ∷ xs) e = absurd (omega (arith, e))

pub none-so-far : (lines : List (List ℕ)) (old : Option (List ℕ)) → SoFar lines lines old old
none-so-far lines old = record { front = []; adds = Appends-nil old; all = refl }

pub one-more : (lines : List (List ℕ)) (line : List ℕ) (rest : List (List ℕ)) (old mid new : Option (List ℕ)) → SoFar lines (line ∷ rest) old mid → Appends mid new line → SoFar lines rest old new
one-more lines line rest old mid new so adds = record {
  front = so.front ++ line;
  adds = Appends-trans old mid new so.front line so.adds adds;
  all = so.all ∙ sym (append_assoc so.front line (text_of rest));
}

pub all-told : (lines rest : List (List ℕ)) (old new : Option (List ℕ)) → rest ≡ [] → SoFar lines rest old new → Appends old new (text_of lines)
all-told lines rest old new none so =
    let whole : text_of lines ≡ so.front = so.all ∙ (ap (λ (l : List (List ℕ)). so.front ++ text_of l) none ∙ append-nil so.front) in
    subst (Appends old new) (sym whole) so.adds

pub some-told : (lines : List (List ℕ)) (line : List ℕ) (rest : List (List ℕ)) (old mid new : Option (List ℕ)) → SoFar lines (line ∷ rest) old mid → ReportsFront mid new line
    → ReportsFront old new (text_of lines)
some-told lines line rest old mid new so part =
    subst (ReportsFront old new) (sym so.all) (front-then old mid new so.front (line ++ text_of rest) so.adds (front-more mid new line (text_of rest) part))
