-- What was sent between the boots, where the notices grow and one round more comes.
use Rattle.std.proofs.Common.{◌≡◌, ℕ, ◌+◌, ◌≤◌, List, [], ◌∷◌, ◌++◌, length, take, drop, refl, sym, ap, ◌∙◌, arith, length-append}
use Rattle.ps_types.specs.declared.entry.Notice.{Notice}
use Rattle.ps_world.specs.Holds.{AreRounds}
use Rattle.ps_world.proofs.Lists.{piece-front}

pub rounds-grow : (all more : List Notice) (begin : ℕ) (rounds : List (List Notice)) (end : ℕ) → AreRounds all begin rounds end → AreRounds (all ++ more) begin rounds end
rounds-grow all more begin [] end are = are
rounds-grow all more begin (r ∷ rounds) end are = (
  are.0 ∙ sym (piece-front begin (length r) all more are.1),
  (let l = length-append all more in let fits : begin + length r ≤ length all = are.1 in omega (arith, l, fits)),
  are.2,
  are.3,
  are.4,
  rounds-grow all more are.2 rounds end are.5,
)

pub rounds-more : (all : List Notice) (begin : ℕ) (rounds : List (List Notice)) (end : ℕ) (r : List Notice) (next : ℕ) → AreRounds all begin rounds end → r ≡ take (length r) (drop end all)
    → end + length r ≤ length all → next ≤ end + length r → end + length r ≤ next + 1 → AreRounds all begin (rounds ++ r ∷ []) next
rounds-more all begin [] end r next are is fits low high = (
  is ∙ ap (λ k. take (length r) (drop k all)) (sym are),
  (let e : begin ≡ end = are in omega (arith, e, fits)),
  next,
  (let e : begin ≡ end = are in omega (arith, e, low)),
  (let e : begin ≡ end = are in omega (arith, e, high)),
  refl,
)
rounds-more all begin (x ∷ rounds) end r next are is fits low high = (are.0, are.1, are.2, are.3, are.4, rounds-more all are.2 rounds end r next are.5 is fits low high)
