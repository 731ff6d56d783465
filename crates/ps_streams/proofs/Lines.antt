-- Lines that come one after another, and what a clock is asked.
use Rattle.std.proofs.Common.{◌≡◌, ℕ, ◌<◌, ◌≤◌, Bool, true, false, Ok, List, [], ◌∷◌, ◌++◌, Option, Some, None, length, refl, ap, sym, ◌∙◌, subst, arith}
use Rattle.std.specs.Prelude.{if◌then◌else◌, nat_lt}
use Rattle.std.proofs.lemmas.Bool.{le-ltb, lt-ltb}
use Rattle.ps_types.specs.Lines.{first_line, lines_of}
use Rattle.ps_types.specs.declared.entry.Arrival.{Arrival}
use Rattle.ps_types.specs.declared.entry.Arrival.TheVariants.{Line, TooLong}
use Rattle.ps_types.proofs.Lines.{lines_of_first}
use Rattle.ps_io.specs.Clock.{Tells, noted}
use Rattle.ps_wire.specs.Reading.{Gave, IsNext}
use Rattle.ps_wire.specs.declared.lines.NextLine.TheVariants as next
use Rattle.ps_wire.proofs.Gaining.{gave_more}
use Rattle.ps_world.proofs.Lists.{assoc}
use Rattle.ps_streams.specs.Reading.{AreLinesOf, CameOf, ClockGives, HasMoment, HaveMoments, IsEnd, WasAsked, all_noted, told_moment}
use Rattle.ps_streams.proofs.Saying.{if_so}

lines-more : (xs ys : List Arrival) (ls ms : List (List ℕ)) → AreLinesOf xs ls → AreLinesOf ys ms → AreLinesOf (xs ++ ys) (ls ++ ms)
lines-more [] ys [] ms a b = b
lines-more [] ys (l ∷ ls) ms a b = absurd a
lines-more (x ∷ xs) ys [] ms a b = absurd a
lines-more (x ∷ xs) ys (l ∷ ls) ms a b = (a.0, lines-more xs ys ls ms a.1 b)

moments-more : (xs ys : List Arrival) (ls ms : List (Option ℕ)) → HaveMoments xs ls → HaveMoments ys ms → HaveMoments (xs ++ ys) (ls ++ ms)
moments-more [] ys [] ms a b = b
moments-more [] ys (l ∷ ls) ms a b = absurd a
moments-more (x ∷ xs) ys [] ms a b = absurd a
moments-more (x ∷ xs) ys (l ∷ ls) ms a b = (a.0, moments-more xs ys ls ms a.1 b)

-- ---- lines

pub came-none : (b : Option (List ℕ)) → CameOf b b []
came-none None = tt
came-none (Some all) = ([], refl, tt)

pub came-more : (all mid left : Option (List ℕ)) (one two : List Arrival) → CameOf all mid one → CameOf mid left two → CameOf all left (one ++ two)
came-more None mid left one two a b = tt
came-more (Some all) None left one two a b = absurd a
came-more (Some all) (Some mid) None one two a b = absurd b
came-more (Some all) (Some mid) (Some left) one two a b = (a.0 ++ b.0, a.1 ∙ (ap (λ l. a.0 ++ l) b.1 ∙ sym (assoc a.0 b.0 (lines_of left))), lines-more one two a.0 b.0 a.2 b.2)

pub came-line : (bytes : List ℕ) (m : Option ℕ) (before left : Option (List ℕ)) → IsNext (next.Line bytes) before left → CameOf before left (Line bytes m ∷ [])
came-line bytes m None left is = tt
came-line bytes m (Some all) None is = absurd is
came-line bytes m (Some all) (Some left) is = (
  first_line all ∷ [],
  lines_of_first all is.0 ∙ ap (λ l. first_line all ∷ lines_of l) (sym is.2),
  ((is.1, subst (λ (l : List ℕ). length l ≤ 262144) is.1 is.3), tt),
)

pub came-long : (before left : Option (List ℕ)) → IsNext next.TooLong before left → CameOf before left (TooLong ∷ [])
came-long None left is = tt
came-long (Some all) None is = absurd is
came-long (Some []) (Some left) is = absurd (omega (arith, is.0))
came-long (Some (b ∷ bytes)) (Some left) is = (first_line (b ∷ bytes) ∷ [], lines_of_first (b ∷ bytes) (λ e. cc e) ∙ ap (λ l. first_line (b ∷ bytes) ∷ lines_of l) (sym is.1), (is.0, tt))

pub came-end : (before left : Option (List ℕ)) → IsNext next.End before left → CameOf before left [] × IsEnd before left
came-end None left is = (tt, tt)
came-end (Some all) None is = absurd is
came-end (Some all) (Some left) is = (([], ap lines_of (is.0 ∙ sym is.1), tt), is.1)

pub end-of : (all mid left : Option (List ℕ)) (arrivals : List Arrival) → CameOf all mid arrivals → IsEnd mid left → IsEnd all left
end-of None mid left arrivals a b = tt
end-of (Some all) None left arrivals a b = absurd a
end-of (Some all) (Some mid) None arrivals a b = b
end-of (Some all) (Some mid) (Some left) arrivals a b = b

-- a source gave bytes, and then gave more
pub gave-on : (first second third : Option (List ℕ)) (given mid now : ℕ) → Gave first second given mid → Gave second third mid now → Gave first third given now
gave-on first second third given mid now a b = gave_more first second third given mid now b.0 a b.1 b.2

-- ---- a clock

noted-more : (told xs ys : List (Option ℕ)) → all_noted told (xs ++ ys) ≡ all_noted (all_noted told xs) ys
noted-more told [] ys = refl
noted-more told (x ∷ xs) ys = noted-more (noted told x) xs ys

pub asked-none : (t : Option (List (Option ℕ))) → WasAsked t t []
asked-none None = tt
asked-none (Some told) = ([], refl, tt)

pub asked-more : (first second third : Option (List (Option ℕ))) (one two : List Arrival) → WasAsked first second one → WasAsked second third two → WasAsked first third (one ++ two)
asked-more None second third one two a b = tt
asked-more (Some told) None third one two a b = absurd (cc a.1)
asked-more (Some told) (Some mid) third one two a b =
    let same : mid ≡ all_noted told a.0 = cc a.1 in
    (a.0 ++ b.0, b.1 ∙ ap (λ l. Some l) (ap (λ l. all_noted l b.0) same ∙ sym (noted-more told a.0 b.0)), moments-more one two a.0 b.0 a.2 b.2)

asked-one : (told now : Option (List (Option ℕ))) (m : Option ℕ) (a : Arrival) → ((x : Option ℕ) → m ≡ told_moment x → HasMoment a x) → ClockGives told now m → WasAsked told now (a ∷ [])
asked-one None now m a is gives = tt
asked-one (Some told) now m a is gives = (gives.0 ∷ [], gives.1.0, (is gives.0 gives.1.1, tt))

pub asked-line : (told now : Option (List (Option ℕ))) (bytes : List ℕ) (m : Option ℕ) → ClockGives told now m → WasAsked told now (Line bytes m ∷ [])
asked-line told now bytes m gives = asked-one told now m (Line bytes m) (λ x e. e) gives

pub asked-long : (told now : Option (List (Option ℕ))) (m : Option ℕ) → ClockGives told now m → WasAsked told now (TooLong ∷ [])
asked-long told now m gives = asked-one told now m TooLong (λ x e. tt) gives

-- ---- an answer

if_not : {X : Type 0} (b : Bool) (x y : X) → b ≡ false → (if b then x else y) ≡ y
if_not true x y e = absurd (cc e)
if_not false x y e = refl

pub kept-moment : (at : ℕ) → at < 253370764800 → Some at ≡ told_moment (Some at)
kept-moment at low = sym (if_so (nat_lt at 253370764800) (Some at) None (lt-ltb at 253370764800 low))

pub lost-moment : (at : ℕ) → 253370764800 ≤ at → None ≡ told_moment (Some at)
lost-moment at high = sym (if_not (nat_lt at 253370764800) (Some at) None (le-ltb at 253370764800 high))

pub gives-ok : (E : Type 0) (told now : Option (List (Option ℕ))) (at : ℕ) (m : Option ℕ) → m ≡ told_moment (Some at) → Tells {E = E} told now (Ok at) → ClockGives told now m
gives-ok E None now at m e tells = (Some at, e)
gives-ok E (Some told) now at m e tells = (Some at, (tells, e))
