use Rattle.std.proofs.Common.{◌≡◌, ℕ, ◌<◌, List, [], ◌∷◌, Option, Some, ap, sym, ◌∙◌, arith, zero, suc, length, get_or, refl}
use Rattle.std.specs.Prelude.{slice_set, option_map}
use Rattle.ps_chains.specs.Marks.{mark_at}
use Rattle.ps_rows.proofs.slots.apply.Goals as goal

-- what stands at a place is written over
twice : {X : Type 0} (xs : List X) (place : ℕ) (a b : X) → slice_set (slice_set xs place a) place b ≡ slice_set xs place b
twice [] place a b = refl
twice (x ∷ xs) zero a b = refl
twice (x ∷ xs) (suc place) a b = ap (λ r. x ∷ r) (twice xs place a b)

here : {R : Type 0} (slots : List (Option R)) (place : ℕ) (slot : Option R) → place < length slots → slot ≡ get_or slots place slot → mark_at slots place ≡ slot
here [] place slot l e = absurd (omega (arith, l))
here (x ∷ xs) zero slot l e = sym e
here (x ∷ xs) (suc place) slot l e = here xs place slot (omega (arith, l)) e

pub returns-in-Some-clause-rows : goal.returns-in-Some-clause-rows
returns-in-Some-clause-rows g c =
    let slots = c.args.slots.now.items in
    let within : c.args.place < length slots = omega (arith, c.if-place-len.true, c.len.ensures, c.args.slots.now.ok.0) in
    let stood = here slots c.args.place c.index_mut.result.now within c.index_mut.ensures.value ∙ (sym c.take.ensures.value ∙ c.in-Some.is) in
    twice slots c.args.place c.take.new.self (Some c.make.result) ∙ ap (λ o. slice_set slots c.args.place o) (ap Some c.make.ensures ∙ ap (option_map (g.C.Change.makes c.args.change)) (sym stood))

pub returns-in_default-clause-rows : goal.returns-in_default-clause-rows
returns-in_default-clause-rows g c =
    let slots = c.args.slots.now.items in
    let within : c.args.place < length slots = omega (arith, c.if-place-len.true, c.len.ensures, c.args.slots.now.ok.0) in
    let stood = here slots c.args.place c.index_mut.result.now within c.index_mut.ensures.value ∙ (sym c.take.ensures.value ∙ c.in_default.is) in
    ap (λ o. slice_set slots c.args.place o) (c.take.ensures.after ∙ ap (option_map (g.C.Change.makes c.args.change)) (sym stood))
