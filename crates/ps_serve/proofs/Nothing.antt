-- Memory ran out, and a command did nothing.
use Rattle.std.proofs.Common.{◌≡◌, inl, ℕ, List, Option, Some, None, refl}
use Rattle.std.specs.Prelude.{IfSome, Err}
use Rattle.ps_commands.specs.declared.command.Command.{Command}
use Rattle.ps_commands.specs.declared.command.Command.TheVariants.{Serve, Rehearse, Compact, Explain, Readers, Feed, Follow, Mirror}
use Rattle.ps_audit_command.specs.Auditing.{store_touches}
use Rattle.ps_follow_command.specs.Feeding.{feed_touches}
use Rattle.ps_follow_command.specs.Following.{follow_touches}
use Rattle.ps_mirror_command.specs.Mirroring.{mirror_touches}
use Rattle.ps_status.specs.Outside.{Outside}
use Rattle.ps_status.specs.declared.status.Status.TheVariants.{Memory}
use Rattle.ps_status.proofs.Moved.{but-none, lefts-refl, same-refl, untouched-none}
use Rattle.ps_serve.specs.Compacting.{Compacts, Pair}
use Rattle.ps_serve.specs.Did.{Did}
use Rattle.ps_serve.specs.Runs.{Leaves, LeavesAll, Runs, Served}

pub served-nothing : (tells : Type 0) (s : Option Served) (o : Outside) (lefts : List ℕ → ℕ → List ℕ → Type 0) → IfSome s (Runs tells o o lefts lefts Memory)
served-nothing tells None o lefts = tt
served-nothing tells (Some s) o lefts = inl (untouched-none o lefts)

pub compacted-nothing : (tells : Type 0) (p : Option Pair) (o : Outside) (lefts : List ℕ → ℕ → List ℕ → Type 0) → IfSome p (Compacts tells o o lefts lefts Memory)
compacted-nothing tells None o lefts = tt
compacted-nothing tells (Some p) o lefts = inl (untouched-none o lefts)

pub did-nothing : (tells : Type 0) (c : Option Command) (o : Outside) (lefts : List ℕ → ℕ → List ℕ → Type 0) → Did tells c o o lefts lefts (Err Memory)
did-nothing tells None o lefts = tt
did-nothing tells (Some (Serve service store streams)) o lefts = tt
did-nothing tells (Some (Rehearse seed count)) o lefts = refl
did-nothing tells (Some (Compact store new)) o lefts = tt
did-nothing tells (Some (Explain words)) o lefts = inl (Memory, refl, untouched-none o lefts)
did-nothing tells (Some (Readers words)) o lefts = inl (Memory, refl, untouched-none o lefts)
did-nothing tells (Some (Feed words)) o lefts = inl (untouched-none o lefts)
did-nothing tells (Some (Follow words)) o lefts = inl (untouched-none o lefts)
did-nothing tells (Some (Mirror words)) o lefts = inl (Memory, refl, untouched-none o lefts)

all-left : (o : Outside) (lefts : List ℕ → ℕ → List ℕ → Type 0) → LeavesAll o o lefts lefts
all-left o lefts = record { same = same-refl o; all_stores = λ n. refl; all_lefts = λ n. lefts-refl (lefts n) }

pub left-all : (c : Option Command) (o : Outside) (lefts : List ℕ → ℕ → List ℕ → Type 0) → Leaves c o o lefts lefts
left-all None o lefts = all-left o lefts
left-all (Some (Serve service store streams)) o lefts = record {
  other_sources = λ n other. refl;
  other_sinks = λ n other. refl;
  other_clocks = λ n other. refl;
  other_stores = λ n other. refl;
  other_lefts = λ n other. lefts-refl (lefts n);
}
left-all (Some (Rehearse seed count)) o lefts = all-left o lefts
left-all (Some (Compact store new)) o lefts = record {
  same = same-refl o;
  other_stores = λ n one two. refl;
  other_lefts = λ n one two. lefts-refl (lefts n);
}
left-all (Some (Explain words)) o lefts = but-none (store_touches words.store) o lefts
left-all (Some (Readers words)) o lefts = but-none (store_touches words.store) o lefts
left-all (Some (Feed words)) o lefts = but-none (feed_touches words) o lefts
left-all (Some (Follow words)) o lefts = but-none (follow_touches words) o lefts
left-all (Some (Mirror words)) o lefts = but-none (mirror_touches words) o lefts
