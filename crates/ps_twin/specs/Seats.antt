-- What a clause says of a seat of a twin. Callers use these words alone, and name no field.
use Rattle.std.specs.Prelude.{◌≡◌, ℕ, ◌<◌, ◌≤◌, ◌^◌, List, [], ◌∷◌, ◌++◌, length, true, ◌⊎◌, Some, slice_get}
use Rattle.ps_turn.specs.declared.view.Stage.TheVariants.{Idle, Holding}
use Rattle.ps_turn.specs.History.{AllBy, Later}
use Rattle.atomic_table.specs.Table.{rest}
use Rattle.ps_twin.specs.declared.twin.TwinSeat.{TwinSeat}
use Rattle.ps_twin.specs.declared.twin.Twin.{Twin}
use Rattle.ps_twin.specs.Parts.{no_part}
use Rattle.ps_twin.specs.declared.view.TwinView.{TwinView}
use Rattle.ps_twin.specs.Twins.{Prefix, tmaking, tmade_by}

module _ {V J I : Type 0} where
  -- what the seat has seen
  abbrev pub seen_of : TwinSeat V J I → List I
  seen_of s = s.seat.me.0.base.seen

  -- its number
  abbrev pub number_of : TwinSeat V J I → ℕ
  number_of s = s.seat.me.0.base.number

  -- the list of the journal in its hand
  abbrev pub list_of : TwinSeat V J I → List I
  list_of s = s.seat.me.0.list

  -- how many items of it are firm
  abbrev pub firm_of : TwinSeat V J I → ℕ
  firm_of s = s.seat.me.0.firm

  -- the mark of what came into its hand last, or of the state that it left since then
  abbrev pub mark_of : TwinSeat V J I → ℕ × ℕ
  mark_of s = s.seat.me.0.mark

  -- so many items are firm at least, as the seat knows: it never falls
  abbrev pub known_of : TwinSeat V J I → ℕ
  known_of s = s.seat.me.0.known

  -- how many seats the twin has
  abbrev pub seats_of : Twin V J I → ℕ
  seats_of t = t.table.shared.key

  -- it is a seat of this twin
  abbrev pub IsSeatOf : Twin V J I → TwinSeat V J I → Type 0
  IsSeatOf t s = (s.seat.table_id ≡ t.table.shared.table_id) × (s.seat.me.0.base.live ≡ true) × (s.len ≡ length s.seat.me.0.base.seen)

  -- how many seats there are, as the one knows that makes them
  abbrev pub made_of : TwinSeat V J I → ℕ
  made_of s = s.seat.me.0.base.made

  -- it is a seat of this twin, with that view, and has seen nothing
  abbrev pub IsAs : Twin V J I → TwinView I → TwinSeat V J I → Type 0
  IsAs t v s = (s.seat.table_id ≡ t.table.shared.table_id) × (s.seat.me ≡ (v, [])) × (s.len ≡ 0)

  -- the seat has made one more
  abbrev pub HasMade : TwinSeat V J I → TwinSeat V J I → Type 0
  HasMade old new = (new.seat.table_id ≡ old.seat.table_id) × (new.seat.me ≡ (tmaking old.seat.me.0, old.seat.me.1)) × (new.len ≡ old.len)

  -- the one that it made
  abbrev pub IsMadeBy : TwinSeat V J I → TwinSeat V J I → Type 0
  IsMadeBy old made = (made.seat.table_id ≡ old.seat.table_id) × (made.seat.me ≡ (tmade_by old.seat.me.0, [])) × (made.len ≡ 0)

  -- the seat has neither the state nor the journal
  abbrev pub IsFree : TwinSeat V J I → Type 0
  IsFree s = (s.seat.me.0.base.place.stage ≡ Idle) × (s.seat.me.0.journal.stage ≡ Idle) × (s.seat.me.1 ≡ [])

  -- the seat doesn't have the state, and may have the journal
  abbrev pub IsOut : TwinSeat V J I → Type 0
  IsOut s = s.seat.me.0.base.place.stage ≡ Idle

  -- the seat has the journal, and may have the state
  abbrev pub HoldsJournal : TwinSeat V J I → Type 0
  HoldsJournal s = s.seat.me.0.journal.stage ≡ Holding

  -- the seat has the journal alone
  abbrev pub HasJournal : TwinSeat V J I → Type 0
  HasJournal s = IsOut s × HoldsJournal s × (s.seat.me.1 ≡ (1, no_part) ∷ [])

  -- the seat has the state, and has seen fewer than 2^63 items. It may have the journal
  abbrev pub HasState : TwinSeat V J I → Type 0
  HasState s = (s.seat.me.0.base.place.stage ≡ Holding) × (s.seat.me.1 ≡ (0, no_part) ∷ rest s.seat.me.1) × (length s.seat.me.0.base.seen < 2 ^ 63)

  -- of the journal the seat has what it had
  abbrev pub IsSameHand : TwinSeat V J I → TwinSeat V J I → Type 0
  IsSameHand old new = (new.seat.me.0.journal ≡ old.seat.me.0.journal) × (new.seat.me.0.list ≡ old.seat.me.0.list) × (new.seat.me.0.firm ≡ old.seat.me.0.firm)

  -- the state came into its hand, and else nothing changed there
  abbrev pub TookState : TwinSeat V J I → TwinSeat V J I → Type 0
  TookState old new = IsSameHand old new × (rest new.seat.me.1 ≡ old.seat.me.1)

  -- the state left its hand, and else nothing changed there
  abbrev pub GaveState : TwinSeat V J I → TwinSeat V J I → Type 0
  GaveState old new = IsSameHand old new × (new.seat.me.1 ≡ rest old.seat.me.1)

  -- the seat of that number, which has seen nothing
  pub record IsNew (t : Twin V J I) (k : ℕ) (s : TwinSeat V J I) : Type 0 where
    pub twin : IsSeatOf t s
    pub free : IsFree s
    pub number : number_of s ≡ k
    pub seen : seen_of s ≡ []

  -- these are all seats of the twin, new, and numbered in order
  pub record AreNew (t : Twin V J I) (seats : List (TwinSeat V J I)) : Type 0 where
    pub each : (k : ℕ) (s : TwinSeat V J I) → slice_get seats k ≡ Some s → IsNew t k s
    pub all : length seats ≡ seats_of t

  -- these are all seats of the twin, and none has the state or the journal
  pub record AreAll (t : Twin V J I) (seats : List (TwinSeat V J I)) : Type 0 where
    pub each : (k : ℕ) (s : TwinSeat V J I) → slice_get seats k ≡ Some s → IsSeatOf t s × IsFree s
    pub all : (n : ℕ) → n < seats_of t → (k : ℕ) × (s : TwinSeat V J I) × (slice_get seats k ≡ Some s) × (number_of s ≡ n)

  -- a twin may be made of the two
  pub record MayOpen (stands : V → List I → Type 0) (firm_in : V → ℕ) (mark_in : V → ℕ × ℕ) (jstands : J → List I → Type 0) (jmark_in : J → ℕ × ℕ) (value : V) (journal : J) : Type 0 where
    pub empty : stands value []
    pub journal_empty : jstands journal []
    pub firm : firm_in value ≡ 0
    pub mark : mark_in value ≡ jmark_in journal

  -- the seat may give the state back, which stands for what it has seen and then these items of its own
  pub record MayLeave (meaning : V → List I → Type 0) (firm_in : V → ℕ) (mark_in : V → ℕ × ℕ) (maker : I → ℕ) (t : Twin V J I) (s : TwinSeat V J I) (value : V) (added : List I) : Type 0 where
    pub twin : IsSeatOf t s
    pub held : HasState s
    pub stands : meaning value (seen_of s ++ added)
    pub own : AllBy maker (number_of s) added
    pub few : length added < 2 ^ 63
    pub firm : firm_in value ≤ known_of s
    pub mark : HoldsJournal s ⊎ (mark_in value ≡ mark_of s)

  -- the seat may give the journal back
  pub record MayLeaveJournal (meaning : J → List I → Type 0) (firm_in : J → ℕ) (mark_in : J → ℕ × ℕ) (t : Twin V J I) (s : TwinSeat V J I) (journal : J) : Type 0 where
    pub twin : IsSeatOf t s
    pub held : HasJournal s
    pub list : (l : List I) × meaning journal l × Prefix (list_of s) l × Prefix l (seen_of s)
    pub firm : firm_of s ≤ firm_in journal
    pub mark : mark_in journal ≡ mark_of s

  -- the state stands for a list that begins with what each seat has seen, with no item of that seat's making after that, and the journal for a
  -- beginning of it; no fewer items of the journal are firm than the state counts on, and the two have the same mark
  pub record Gathers (stands : V → List I → Type 0) (firm_in : V → ℕ) (mark_in : V → ℕ × ℕ) (jstands : J → List I → Type 0) (jfirm_in : J → ℕ) (jmark_in : J → ℕ × ℕ) (maker : I → ℕ) (x : V) (y : J) (seats : List (TwinSeat V J I)) : Type 0 where
    pub log : List I
    pub list : List I
    pub value : stands x log
    pub journal : jstands y list
    pub front : Prefix list log
    pub firm_le : firm_in x ≤ jfirm_in y
    pub mark_same : mark_in x ≡ jmark_in y
    pub later : (k : ℕ) (s : TwinSeat V J I) → slice_get seats k ≡ Some s → Later maker (number_of s) (seen_of s) log
