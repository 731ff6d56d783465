-- What a crash leaves while a store is opened.
use Rattle.std.specs.Prelude.{ℕ, ◌⊎◌, List, [], ◌∷◌}
use Rattle.ps_types.specs.declared.entry.Entry.{Entry}
use Rattle.ps_disk.specs.declared.device.Disk.{Ghosts}
use Rattle.ps_disk.specs.Disk.{LeavesOnly, MayLeave}
use Rattle.ps_journal.specs.declared.journal.Journal.{Journal}
use Rattle.ps_journal.specs.Journal.{disk_of}
use Rattle.ps_journal.specs.Left.{IsFrontOfLeft, IsWithOrWithout}

-- what it might have left before, or the entries, or those and the Boot
abbrev pub IsOpenLeft : List ℕ → List (ℕ × ℕ) → List Entry → Entry → List ℕ → Type 0
IsOpenLeft synced written E boot c = MayLeave synced written c ⊎ IsWithOrWithout E (boot ∷ []) c

-- at any moment between the two
abbrev pub OpenLeaves : {D : Type 0} → (D → ℕ) → (D → ℕ → List ℕ → Type 0) → (D → List ℕ) → (D → List (ℕ × ℕ))
    → List Entry → Entry → D → D → Type 0
OpenLeaves moment left_since synced written E boot old new =
    LeavesOnly moment left_since old new (IsOpenLeft (synced old) (written old) E boot)

-- What a crash might have left before, or at any moment since, is a front of a list that a crash may leave now.
pub record Fronts {D : Type 0} (moment : D → ℕ) (left_since : D → ℕ → List ℕ → Type 0) (synced : D → List ℕ)
    (written : D → List (ℕ × ℕ)) (old new : D) : Type 0 where
  pub since : LeavesOnly moment left_since old new (IsFrontOfLeft (synced new) (written new))
  pub past : (c : List ℕ) → MayLeave (synced old) (written old) c → IsFrontOfLeft (synced new) (written new) c

abbrev pub FrontsIn : {D : Type 0} {g : Ghosts D} → Journal D g → Journal D g → Type 0
FrontsIn {D} {g} old new = Fronts g.moment g.left_since g.synced g.written (disk_of old) (disk_of new)
