-- The steps of a holding, by what the call on the state answered.
use Rattle.std.specs.Prelude.{ℕ, Bool, true, false, List, [], ◌∷◌, take, Result, Ok, Err}
use Rattle.ps_types.specs.declared.entry.Arrival.{Arrival}
use Rattle.ps_types.specs.declared.jid.Jid.{Jid}
use Rattle.ps_model.specs.declared.steps.Role.TheVariants.{Reader, Writer}
use Rattle.ps_model.specs.declared.steps.Step.{Step}
use Rattle.ps_model.specs.declared.steps.Step.TheVariants.{Arrive, Take, Emit, Gone, Ended}
use Rattle.ps_trace.specs.Did.{records_of}
use Rattle.ps_hall_state.specs.declared.answers.Outcome.{Outcome}
use Rattle.ps_hall_state.specs.declared.answers.Outcome.TheVariants.{Committed, Answered, Silent, Full}
use Rattle.ps_hall_state.specs.declared.answers.Receipt.{Receipt}
use Rattle.ps_hall_state.specs.declared.answers.ArriveRefusal.{ArriveRefusal}
use Rattle.ps_hall_state.specs.declared.answers.HandedRefusal.{HandedRefusal}
use Rattle.ps_hall_state.specs.declared.answers.HandedRefusal.TheVariants as refusal
use Rattle.ps_hall_state.specs.declared.answers.NextLine.{NextLine}
use Rattle.ps_hall_state.specs.declared.answers.NextLine.TheVariants.{Reply, Notice, NotYet, Over}

abbrev pub is_full : Outcome → Bool
is_full Full = true
is_full Committed = false
is_full Answered = false
is_full Silent = false

abbrev pub lay_steps : List ℕ → Arrival → Result Receipt ArriveRefusal → List Step
lay_steps host arrival (Ok r) = Arrive host arrival (is_full r.outcome) ∷ []
lay_steps host arrival (Err e) = []

abbrev pub step_of : List ℕ → NextLine → List Step
step_of host (Reply text) = Take host ∷ []
step_of host (Notice to text) = Emit to ∷ []
step_of host NotYet = []
step_of host Over = []

abbrev pub next_steps : {E : Type 0} → List ℕ → Result NextLine E → List Step
next_steps host (Ok n) = step_of host n
next_steps host (Err e) = []

-- the writer has ended for want of room, and not for another refusal
abbrev pub refused_steps : List ℕ → HandedRefusal → List Step
refused_steps host refusal.Full = Ended host Writer ∷ []
refused_steps host refusal.Store = []
refused_steps host refusal.Memory = []

-- the first so many that are in hand are recorded
abbrev pub record_steps : List ℕ → List Jid → Result ℕ HandedRefusal → List Step
record_steps host hand (Ok n) = records_of (take n hand)
record_steps host hand (Err e) = refused_steps host e

-- the reader has ended for any refusal
abbrev pub gone_steps : {T : Type 0} → List ℕ → Result T HandedRefusal → List Step
gone_steps host (Ok t) = Gone host ∷ []
gone_steps host (Err e) = Ended host Reader ∷ []
