-- The lines that came are the stanzas that were dealt, at the moment 0.
use Rattle.std.proofs.Common.{
  ◌≡◌,
  ◌≢◌,
  ℕ,
  zero,
  suc,
  ◌+◌,
  ◌-◌,
  ◌^◌,
  ◌<◌,
  ◌≤◌,
  Bool,
  true,
  false,
  List,
  [],
  ◌∷◌,
  ◌++◌,
  Option,
  Some,
  None,
  length,
  map,
  refl,
  sym,
  ap,
  subst,
  ◌∙◌,
  arith,
  length-append,
  append_assoc,
  append-nil,
}
use Rattle.std.specs.Prelude.{All, nat_lt, if◌then◌else◌}
use Rattle.std.specs.List.{AllByRecursion}
use Rattle.std.proofs.lemmas.Bool.Decides.{nat_tests}
use Rattle.std.proofs.lemmas.List.Elements.{All-nil, All-cons}
use Rattle.ps_types.specs.Lines.{NoNewline, joined, lines_of}
use Rattle.ps_types.specs.Print.{print}
use Rattle.ps_types.specs.Tree.{Tree}
use Rattle.ps_types.specs.declared.entry.Arrival.{Arrival}
use Rattle.ps_types.specs.declared.entry.Arrival.TheVariants.{Line, TooLong}
use Rattle.ps_types.proofs.Lines.{lines_of_written}
use Rattle.ps_model.proofs.OneLine.{print-line}
use Rattle.ps_io.specs.Clock.{noted}
use Rattle.ps_workers.specs.Reading.{AreLinesOf, CameOf, HaveMoments, IsEnd, Lined, WasAsked, all_noted, brings_all, told_moment}
use Rattle.ps_workers.specs.ReadEnd.{ReadEnd}
use Rattle.ps_workers.specs.ReadEnd.TheVariants.{Ended}
use Rattle.ps_rehearse_lines.specs.Dealing.{IsShort}
use Rattle.ps_rehearse.specs.Rehearsed.{arrival_of}
use Rattle.ps_rehearse.specs.Still.{zeros}
use Rattle.ps_rehearse.proofs.Clocks.{zeros-length}

-- ---- the clock

abbrev AreZero : List (Option ℕ) → Type 0
AreZero answers = AllByRecursion (λ (x : Option ℕ). x ≡ Some 0) answers

zero-push : (xs : List (Option ℕ)) → AreZero xs → AreZero (xs ++ Some 0 ∷ [])
zero-push [] are = (refl, tt)
zero-push (x ∷ xs) are = (are.0, zero-push xs are.1)

zeros-are : (n : ℕ) → AreZero (zeros n)
unfolding zeros
zeros-are zero = tt
zeros-are (suc n) = zero-push (zeros n) (zeros-are n)

noted-if : (told : List (Option ℕ)) (one : Option ℕ) (b : Bool) → nat_lt (length told) (2 ^ 64 - 1) ≡ b → length told < 2 ^ 64 - 1 → (if b then told ++ one ∷ [] else told) ≡ told ++ one ∷ []
noted-if told one true is low = refl
noted-if told one false is low = absurd (grind (arith, nat_tests))

all-noted : (told answers : List (Option ℕ)) → length told + length answers < 2 ^ 64 - 1 → all_noted told answers ≡ told ++ answers
all-noted told [] low = sym (append-nil told)
all-noted told (x ∷ answers) low =
    let one : noted told x ≡ told ++ x ∷ [] = noted-if told x (nat_lt (length told) (2 ^ 64 - 1)) refl (omega (arith, low)) in
    let l = length-append told (x ∷ []) in
    ap (λ (t : List (Option ℕ)). all_noted t answers) one ∙ (all-noted (told ++ x ∷ []) answers (omega (arith, low, l)) ∙ append_assoc told (x ∷ []) answers)

many-moments : (arrived : List Arrival) (answers : List (Option ℕ)) → HaveMoments arrived answers → length answers ≡ length arrived
many-moments [] [] have = refl
many-moments [] (x ∷ answers) have = absurd have
many-moments (a ∷ arrived) [] have = absurd have
many-moments (a ∷ arrived) (x ∷ answers) have = ap suc (many-moments arrived answers have.1)

record AtZero (arrived : List Arrival) : Type 0 where
  answers : List (Option ℕ)
  have : HaveMoments arrived answers
  nil : AreZero answers

at-zero : (told now : Option (List (Option ℕ))) (n : ℕ) (arrived : List Arrival) → told ≡ Some [] → now ≡ Some (zeros n) → length arrived < 2 ^ 64 - 1 → WasAsked told now arrived → AtZero arrived
at-zero None now n arrived was is few asked = absurd (cc was)
at-zero (Some told) now n arrived was is few asked =
    let none : told ≡ [] = cc was in
    let many = many-moments arrived asked.0 asked.2 in
    let all : all_noted [] asked.0 ≡ asked.0 = all-noted [] asked.0 (omega (arith, few, many)) in
    let so : Some (zeros n) ≡ Some (all_noted told asked.0) = sym is ∙ asked.1 in
    let same : zeros n ≡ all_noted told asked.0 = cc so in
    let are : zeros n ≡ asked.0 = same ∙ (ap (λ (t : List (Option ℕ)). all_noted t asked.0) none ∙ all) in
    record { answers = asked.0; have = asked.2; nil = subst AreZero are (zeros-are n) }

-- ---- the lines

abbrev lines_in : List Tree → List ℕ
lines_in trees = joined (map print trees)

prints-clean : (trees : List Tree) → All NoNewline (map print trees)
prints-clean [] = All-nil NoNewline
prints-clean (t ∷ ts) = All-cons NoNewline (print t) (map print ts) (print-line t) (prints-clean ts)

read-back : (trees : List Tree) → lines_of (lines_in trees) ≡ map print trees
read-back trees =
    lines_of_written (lines_in trees) (map print trees)
    (record { is_all = sym (append-nil (lines_in trees)); whole = prints-clean trees; part = All-nil (λ b. b ≢ 10) })

many-lines : (arrived : List Arrival) (trees : List Tree) → AreLinesOf arrived (map print trees) → length arrived ≡ length trees
many-lines [] [] are = refl
many-lines [] (t ∷ ts) are = absurd are
many-lines (a ∷ arrived) [] are = absurd are
many-lines (a ∷ arrived) (t ∷ ts) are = ap suc (many-lines arrived ts are.1)

came-all : (all : List ℕ) (left : Option (List ℕ)) (arrived : List Arrival) → CameOf (Some all) left arrived → IsEnd (Some all) left → AreLinesOf arrived (lines_of all)
came-all all None arrived came end = absurd came
came-all all (Some left) arrived came end =
    let rest : lines_of left ≡ [] = ap lines_of end in
    let given : lines_of all ≡ came.0 = came.1 ∙ (ap (λ (l : List (List ℕ)). came.0 ++ l) rest ∙ append-nil came.0) in
    subst (AreLinesOf arrived) (sym given) came.2

arrived-are : (arrived : List Arrival) (trees : List Tree) (answers : List (Option ℕ)) → AreLinesOf arrived (map print trees) → AllByRecursion IsShort trees
    → HaveMoments arrived answers → AreZero answers → arrived ≡ map arrival_of trees
arrived-are [] [] answers are short have nil = refl
arrived-are [] (t ∷ ts) answers are short have nil = absurd are
arrived-are (a ∷ arrived) [] answers are short have nil = absurd are
arrived-are (a ∷ arrived) (t ∷ ts) [] are short have nil = absurd have
arrived-are (TooLong ∷ arrived) (t ∷ ts) (x ∷ answers) are short have nil = (
    let long = are.0 in
    let few = short.0.short in
    absurd (omega (arith, long, few)))
arrived-are (Line bytes moment ∷ arrived) (t ∷ ts) (x ∷ answers) are short have nil =
    let same : bytes ≡ print t = are.0.0 in
    let at : moment ≡ Some 0 = have.0 ∙ ap told_moment nil.0 in
    let rest = arrived-are arrived ts answers are.1 short.1 have.1 nil.1 in
    (λ i. Line (same i) (at i) ∷ rest i)

pub lined-are : (end : ReadEnd) (before source : Option (List ℕ)) (told now : Option (List (Option ℕ))) (n : ℕ) (arrived : List Arrival) (trees : List Tree)
    → end ≡ Ended → before ≡ Some (lines_in trees) → told ≡ Some [] → now ≡ Some (zeros n) → AllByRecursion IsShort trees → length trees < 2 ^ 64 - 1
    → Lined end before source told now arrived → arrived ≡ map arrival_of trees
lined-are end before source told now n arrived trees ended from was is short few l =
    let none : l.missing ≡ [] = l.none (ap brings_all ended) in
    let all : arrived ++ l.missing ≡ arrived = ap (λ (m : List Arrival). arrived ++ m) none ∙ append-nil arrived in
    let came = subst (λ (a : List Arrival). CameOf before l.left a) all l.came in
    let here : CameOf (Some (lines_in trees)) l.left arrived = subst (λ (b : Option (List ℕ)). CameOf b l.left arrived) from came in
    let over : IsEnd (Some (lines_in trees)) l.left = subst (λ (b : Option (List ℕ)). IsEnd b l.left) from (l.whole ended) in
    let lines : AreLinesOf arrived (map print trees) = subst (AreLinesOf arrived) (read-back trees) (came-all (lines_in trees) l.left arrived here over) in
    let size : length arrived ≡ length trees = many-lines arrived trees lines in
    let z = at-zero told now n arrived was is (omega (arith, few, size)) (subst (WasAsked told now) all l.asked) in
    arrived-are arrived trees z.answers lines short z.have z.nil
