-- The count of faults before a report, and what was reported since.
use Rattle.std.proofs.Common.{◌≡◌, ◌≢◌, ◌⊎◌, inl, inr, ℕ, ◌≤◌, List, Option, sym, ◌∙◌, subst, arith}
use Rattle.std.specs.Prelude.{Result, Ok, Err}
use Rattle.std.specs.Io.KnownBytes.{Appends}
use Rattle.ps_io.specs.World.{ReportsFront}
use Rattle.ps_status.specs.Statuses.{report_of}
use Rattle.ps_status.specs.Telling.{IsReported, Tells, TellsText, reported_from, told_from}
use Rattle.ps_status.specs.declared.status.Status.{Status}
use Rattle.ps_status.specs.declared.status.Status.TheVariants.{Done, Usage, OpenFault, FeedBad, StoreDamaged, StoreFault, StoreFull, Occupied, StreamFault, StreamLong, Memory}
use Rattle.ps_status.proofs.Fronts.{rose-then}

-- as far as a status tells it, the count before the report is none above the one now
pub since-then : (st : Status) (before : ℕ) (last : ℕ × ℕ) (now : ℕ) → before ≤ now → last.1 ≤ now → reported_from st before last ≤ now
since-then OpenFault before last now was is = is
since-then (FeedBad at) before last now was is = is
since-then (StoreDamaged at) before last now was is = is
since-then StoreFault before last now was is = is
since-then StoreFull before last now was is = is
since-then Occupied before last now was is = is
since-then StreamFault before last now was is = is
since-then StreamLong before last now was is = is
since-then Done before last now was is = was
since-then Usage before last now was is = was
since-then Memory before last now was is = was

pub told-then : (came : Result (List (List ℕ)) Status) (before : ℕ) (last : ℕ × ℕ) (now : ℕ) → before ≤ now → last.1 ≤ now → told_from came before last ≤ now
told-then (Ok lines) before last now was is = is
told-then (Err st) before last now was is = since-then st before last now was is

-- a report that began where nothing was reported yet, and the count of faults had not fallen
pub report-moved : (old mid new : Option (List ℕ)) (line : List ℕ) (before at now : ℕ) → mid ≡ old → before ≤ at → IsReported mid new line at now → IsReported old new line before now
report-moved old mid new line before at now same later (inl whole) = inl (subst (λ (x : Option (List ℕ)). Appends x new line) same whole)
report-moved old mid new line before at now same later (inr front) =
    inr (subst (λ (x : Option (List ℕ)). ReportsFront x new line) same front.0, rose-then before at now later front.1)

pub text-moved : (text : List ℕ) (old mid new : Option (List ℕ)) (start before now : ℕ) (st : Status) → mid ≡ old → start ≤ before → TellsText text mid new before now st
    → TellsText text old new start now st
text-moved text old mid new start before now Done same later told = subst (λ (x : Option (List ℕ)). Appends x new text) same told
text-moved text old mid new start before now StreamFault same later told =
    (subst (λ (x : Option (List ℕ)). ReportsFront x new text) same told.0, rose-then start before now later told.1)
text-moved text old mid new start before now Usage same later told = told
text-moved text old mid new start before now OpenFault same later told = told
text-moved text old mid new start before now (FeedBad at) same later told = told
text-moved text old mid new start before now (StoreDamaged at) same later told = told
text-moved text old mid new start before now StoreFault same later told = told
text-moved text old mid new start before now StoreFull same later told = told
text-moved text old mid new start before now Occupied same later told = told
text-moved text old mid new start before now StreamLong same later told = told
text-moved text old mid new start before now Memory same later told = told

-- what was refused isn't a wrong use
pub refused-never : (st : Status) → (st ≡ OpenFault) ⊎ (st ≡ Memory) → st ≢ Usage
refused-never st (inl is) e = cc (is, e)
refused-never st (inr is) e = cc (is, e)

-- the counts after an opening that was done, and nothing but giving back since
pub opened-then : (before opened now : ℕ) (last last_opened : ℕ × ℕ) → before ≤ opened → last_opened ≡ (before, opened) → last ≡ last_opened → now ≡ opened → (before ≤ now) × (last.1 ≤ now)
opened-then before opened now last last_opened later is same none =
    (omega (arith, later, none), subst (λ (l : ℕ × ℕ). l.1 ≤ now) (sym (same ∙ is)) (omega (arith, none)))
