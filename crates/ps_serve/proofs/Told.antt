-- What is told of a command, by what came of it.
use Rattle.std.proofs.Common.{◌≡◌, ◌≢◌, ℕ, ◌≤◌, List, Option, Some, None, inl, refl, sym, ap, subst, ◌∙◌}
use Rattle.std.specs.Prelude.{IfSome, Result, Ok, Err}
use Rattle.ps_io.specs.Held.{Same, SameLefts}
use Rattle.ps_commands.specs.declared.command.Command.{Command}
use Rattle.ps_commands.specs.declared.command.Command.TheVariants.{Serve, Rehearse, Compact, Explain, Readers, Feed, Follow, Mirror}
use Rattle.ps_rehearse.specs.declared.numbers.Numbers.{Numbers}
use Rattle.ps_audit_command.proofs.Audits.{explains-told, lists-told}
use Rattle.ps_follow_command.proofs.Fed.{feeds-told}
use Rattle.ps_follow_command.proofs.Followed.{follows-told}
use Rattle.ps_mirror_command.proofs.Mirrored.{mirrors-told}
use Rattle.ps_io.specs.declared.world.World.{Ghosts}
use Rattle.ps_status.specs.Outside.{Outside, SameStreams, outside}
use Rattle.ps_status.specs.Telling.{OnlyTells, TellsText, reported_from, told_from}
use Rattle.ps_status.specs.declared.status.Status.{Status}
use Rattle.ps_status.specs.declared.status.Status.TheVariants.{Done, Memory}
use Rattle.ps_status.proofs.Counts.{text-moved}
use Rattle.ps_serve.specs.Came.{HasNumbers, IsCame, IsTold, MayRehearse, came_by, outcome_in, status_in}
use Rattle.ps_serve.specs.declared.whole.Came.{Came}
use Rattle.ps_serve.specs.declared.whole.Came.TheVariants as came
use Rattle.ps_serve.specs.Compacting.{compacted_by}
use Rattle.ps_serve.specs.Did.{Did}
use Rattle.ps_serve.specs.Numbers.{TellsNumbers, numbers_report}
use Rattle.ps_serve.specs.Runs.{served_by}

-- ---- numbers

-- what has numbers is a rehearsal, and serves nothing
pub not-served : (o : Option Command) (n : Numbers) → HasNumbers o n → served_by o ≡ None
not-served o n has = ap served_by has.is

pub not-compacted : (o : Option Command) (n : Numbers) → HasNumbers o n → compacted_by o ≡ None
not-compacted o n has = ap compacted_by has.is

pub some-command : (o : Option Command) (n : Numbers) → HasNumbers o n → o ≡ None → ⊥
some-command o n has none = let clash : Some _ ≡ None = sym has.is ∙ none in cc clash

pub text-status : (text : List ℕ) (old new : Option (List ℕ)) (before now : ℕ) (st bad : Status) → TellsText text old new before now st → st ≡ bad → TellsText text old new before now bad
text-status text old new before now st bad told e = subst (TellsText text old new before now) e told

pub numbers-told : (DidSo : Result (List (List ℕ)) Status → Type 0) (o : Option Command) (n : Numbers) → HasNumbers o n
    → (old mid new : Option (List ℕ)) (start at now : ℕ) (last : ℕ × ℕ) (st : Status)
    → mid ≡ old → start ≤ at → TellsNumbers n mid new at now st → IsTold DidSo o old new start last now st
numbers-told DidSo o n has old mid new start at now last st same later told = inl (n, has, text-moved (numbers_report n) old mid new start at now st same later told)

-- ---- lines, and a status

module _ (tells : Type 0) (old new : Outside) (lefts lefts_now : List ℕ → ℕ → List ℕ → Type 0) (lines : List (List ℕ)) where
  -- what has lines is none of the commands that have none
  pub lines-serve-nothing : (o : Option Command) → Did tells o old new lefts lefts_now (Ok lines) → served_by o ≡ None
  lines-serve-nothing None did = absurd did
  lines-serve-nothing (Some (Serve service store streams)) did = absurd did
  lines-serve-nothing (Some (Rehearse seed count)) did = refl
  lines-serve-nothing (Some (Compact store new_store)) did = absurd did
  lines-serve-nothing (Some (Explain words)) did = refl
  lines-serve-nothing (Some (Readers words)) did = refl
  lines-serve-nothing (Some (Feed words)) did = refl
  lines-serve-nothing (Some (Follow words)) did = refl
  lines-serve-nothing (Some (Mirror words)) did = refl

  pub lines-compact-nothing : (o : Option Command) → Did tells o old new lefts lefts_now (Ok lines) → compacted_by o ≡ None
  lines-compact-nothing None did = absurd did
  lines-compact-nothing (Some (Serve service store streams)) did = absurd did
  lines-compact-nothing (Some (Rehearse seed count)) did = refl
  lines-compact-nothing (Some (Compact store new_store)) did = absurd did
  lines-compact-nothing (Some (Explain words)) did = refl
  lines-compact-nothing (Some (Readers words)) did = refl
  lines-compact-nothing (Some (Feed words)) did = refl
  lines-compact-nothing (Some (Follow words)) did = refl
  lines-compact-nothing (Some (Mirror words)) did = refl

  pub lines-of-some : (o : Option Command) → Did tells o old new lefts lefts_now (Ok lines) → o ≡ None → ⊥
  lines-of-some o did none = subst (λ (x : Option Command). Did tells x old new lefts lefts_now (Ok lines)) none did

-- ---- a rehearsal

module _ (tells : Type 0) (seed count : ℕ) (old new : Outside) (lefts lefts_now : List ℕ → ℕ → List ℕ → Type 0) where
  pub rehearsed-came : (made : Came) → MayRehearse seed count made → IsCame tells (Some (Rehearse seed count)) old new lefts lefts_now made
  rehearsed-came (came.Rehearsed n) is = record { seed = seed; count = count; is = refl; rehearsed = is }
  rehearsed-came (came.Lines lines) is = absurd is
  rehearsed-came (came.Ended status) is = ap (λ (st : Status). Err st) is

pub rehearsed-status : (seed count : ℕ) (made : Came) (bad : Status) → MayRehearse seed count made → bad ≢ Done → bad ≢ Memory → status_in made ≢ bad
rehearsed-status seed count (came.Rehearsed n) bad is one other e = one (sym e)
rehearsed-status seed count (came.Lines lines) bad is one other e = is
rehearsed-status seed count (came.Ended status) bad is one other e = other (sym e ∙ is)

pub rehearsed-since : (seed count : ℕ) (made : Came) (before : ℕ) (last : ℕ × ℕ) → MayRehearse seed count made → told_from (outcome_in made) before last ≡ before
rehearsed-since seed count (came.Rehearsed n) before last is = refl
rehearsed-since seed count (came.Lines lines) before last is = absurd is
rehearsed-since seed count (came.Ended status) before last is = ap (λ (st : Status). reported_from st before last) is

-- ---- lines, or how it ended

module _ (tells : Type 0) (o : Option Command) (old new : Outside) (lefts lefts_now : List ℕ → ℕ → List ℕ → Type 0) where
  pub came-of : (r : Result (List (List ℕ)) Status) → Did tells o old new lefts lefts_now r → IsCame tells o old new lefts lefts_now (came_by r)
  came-of (Ok lines) did = did
  came-of (Err status) did = did

pub status-of : (r : Result (List (List ℕ)) Status) (st : Status) → st ≢ Done → status_in (came_by r) ≡ st → r ≡ Err st
status-of (Ok lines) st other e = absurd (other (sym e))
status-of (Err status) st other e = ap (λ (x : Status). Err x) e

pub outcome-of : (r : Result (List (List ℕ)) Status) → outcome_in (came_by r) ≡ r
outcome-of (Ok lines) = refl
outcome-of (Err status) = refl

-- ---- then a report

pub same-then : {S R K D C : Type 0} (w : Ghosts S R K D C) (old new : S) → OnlyTells w old new → SameStreams (outside w old) (outside w new)
same-then w old new only = record { same_sources = only.same_sources; same_sinks = only.same_sinks; same_clocks = only.same_clocks }

module _ (old new new1 : Outside) (lefts lefts_now lefts_told : List ℕ → ℕ → List ℕ → Type 0) (after : SameStreams new new1)
    (stores : Same new.stores new1.stores) (same_lefts : SameLefts lefts_now lefts_told) where
  pub did-told : (tells : Type 0) (o : Option Command) (r : Result (List (List ℕ)) Status) → Did tells o old new lefts lefts_now r → Did tells o old new1 lefts lefts_told r
  did-told tells None r did = did
  did-told tells (Some (Serve service store streams)) r did = did
  did-told tells (Some (Rehearse seed count)) r did = did
  did-told tells (Some (Compact store new_store)) r did = did
  did-told tells (Some (Explain words)) r did = explains-told old new new1 lefts lefts_now lefts_told after stores same_lefts tells words r did
  did-told tells (Some (Readers words)) r did = lists-told old new new1 lefts lefts_now lefts_told after stores same_lefts tells words r did
  did-told tells (Some (Feed words)) (Ok lines) did = did
  did-told tells (Some (Feed words)) (Err status) did = feeds-told old new new1 lefts lefts_now lefts_told after stores same_lefts tells words status did
  did-told tells (Some (Follow words)) (Ok lines) did = did
  did-told tells (Some (Follow words)) (Err status) did = follows-told old new new1 lefts lefts_now lefts_told after stores same_lefts words status did
  did-told tells (Some (Mirror words)) r did = mirrors-told old new new1 lefts lefts_now lefts_told after stores same_lefts words r did

pub none-some : {A : Type 0} (o : Option A) (P : A → Type 0) → o ≡ None → IfSome o P
none-some None P none = tt
none-some (Some s) P none = absurd (cc none)
