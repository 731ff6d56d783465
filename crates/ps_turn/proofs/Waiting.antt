-- How a seat waits in a line.
use Rattle.std.proofs.Common.{ℕ, ◌+◌, ◌%◌, ◌^◌, subst}
use Rattle.std.specs.Prelude.{◌==◌, slice_index}
use mathlib.Core.Option.{none}
use prog.Atomic.{either}
use Rattle.atomic_table.specs.Table.{State, Me, Step, step, Act, Valid, stepped, carried_after, Allows}
use Rattle.atomic_table.proofs.Lists.{exchanged}
use Rattle.ps_turn.specs.Waits.{Tries, MayDraw}

module _ {S V : Type 0} (holds : State S V → Type 0) (slots id : ℕ) (me : Me S V) where
  -- a seat that may draw a ticket, or look, may draw it if the next one is n
  pub tries_ok : (draws : Step S → Me S V → ℕ → Me S V → Type 0) (ticket n : ℕ) → MayDraw holds slots id me draws ticket
      → Allows holds slots id me ticket (λ m. either (m == n) ((n + 1) % 2 ^ 64) m) (Tries draws (step slots ticket n ((n + 1) % 2 ^ 64) none) me)
  tries_ok draws ticket n may s r wide at bound =
      let m : ℕ = slice_index s.words ticket in
      let next : ℕ = (n + 1) % 2 ^ 64 in
      exchanged m n next
      (λ x. (w : V) × (a : Act S) × Valid s.homes me.1 a × holds (stepped s ticket x id me.1 w a) × Tries draws (step slots ticket n next none) me m (w, carried_after me.1 a))
      (λ hit.
      let d = may.draw s r wide at bound in
      (d.0, d.1, d.2, subst (λ (k : ℕ). holds (stepped s ticket ((k + 1) % 2 ^ 64) id me.1 d.0 d.1)) hit d.3, ((λ _. d.4), (λ miss. absurd (miss hit)))))
      (λ miss.
      let d = may.look s r wide at bound in
      (d.0, d.1, d.2, d.3, ((λ hit. absurd (miss hit)), (λ _. d.4))))
