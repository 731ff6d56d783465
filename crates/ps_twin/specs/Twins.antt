-- The rule of the twin. Its words are the state's next ticket, its ticket served and the length of the history, the journal's next ticket and
-- its ticket served, the firm word, and the two bells, of which it says nothing.
use Rattle.std.specs.Prelude.{◌≡◌, ◌≢◌, ℕ, ◌%◌, ◌^◌, ◌<◌, ◌≤◌, max, List, [], ◌∷◌, ◌++◌, map, length, false, slice_index}
use mathlib.Core.Option.{some}
use lib.ListN.{get_elem?}
use Rattle.atomic_table.specs.Table.{State, Me, rest}
use Rattle.atomic_table.specs.Seated.{TableId}
use Rattle.ps_turn.specs.declared.view.Place.{Place}
use Rattle.ps_turn.specs.declared.view.View.{View}
use Rattle.ps_turn.specs.declared.view.Stage.TheVariants.{Idle, Waiting, Holding}
use Rattle.ps_turn.specs.Line.{Line, place_at}
use Rattle.ps_turn.specs.History.{Later}
use Rattle.ps_turn.specs.Rule.{Core, founder, placed, holding, seeing, idling, making, made_by, gone, keeping}
use Rattle.ps_twin.specs.declared.view.TwinView.{TwinView}
use Rattle.ps_twin.specs.declared.part.Part.{Part}
use Rattle.ps_twin.specs.Parts.{state_part, journal_part, no_part}

abbrev pub base_of : {I : Type 0} → TwinView I → View I
base_of v = v.base

abbrev pub journal_of : {I : Type 0} → TwinView I → Place
journal_of v = v.journal

abbrev pub Prefix : {I : Type 0} → List I → List I → Type 0
Prefix {I} xs ys = (more : List I) × (ys ≡ xs ++ more)

-- the same view, with another base
abbrev pub based : {I : Type 0} → TwinView I → View I → TwinView I
based v b = record { base = b; journal = v.journal; known = v.known; firm = v.firm; mark = v.mark; list = v.list }

abbrev pub jplaced : {I : Type 0} → TwinView I → Place → TwinView I
jplaced v p = record { base = v.base; journal = p; known = v.known; firm = v.firm; mark = v.mark; list = v.list }

-- with the journal in hand
abbrev pub jholding : {I : Type 0} → TwinView I → List I → ℕ → ℕ × ℕ → TwinView I
jholding v l f m = record { base = v.base; journal = place_at Holding v.journal.ticket; known = v.known; firm = f; mark = m; list = l }

abbrev pub jidling : {I : Type 0} → TwinView I → TwinView I
jidling v = jplaced v (place_at Idle v.journal.ticket)

-- the firm word was raised to f
abbrev pub raised : {I : Type 0} → TwinView I → ℕ → TwinView I
raised v f = record { base = v.base; journal = v.journal; known = max v.known f; firm = f; mark = v.mark; list = v.list }

-- with the state in hand
abbrev pub sholding : {I : Type 0} → TwinView I → List I → ℕ → ℕ × ℕ → TwinView I
sholding v log f m = record { base = holding v.base log; journal = v.journal; known = max v.known f; firm = v.firm; mark = m; list = v.list }

abbrev pub sidling : {I : Type 0} → TwinView I → ℕ × ℕ → TwinView I
sidling v m = record { base = idling v.base; journal = v.journal; known = v.known; firm = v.firm; mark = m; list = v.list }

abbrev pub tmaking : {I : Type 0} → TwinView I → TwinView I
tmaking v = based v (making v.base)

abbrev pub tmade_by : {I : Type 0} → TwinView I → TwinView I
tmade_by v = record { base = made_by v.base; journal = place_at Idle 0; known = 0; firm = 0; mark = (0, 0); list = [] }

abbrev pub tkeeping : {I : Type 0} → TwinView I → TwinView I → TwinView I
tkeeping v u = based v (keeping v.base u.base)

abbrev pub tfounder : {I : Type 0} → TwinView I
tfounder = record { base = founder; journal = place_at Idle 0; known = 0; firm = 0; mark = (0, 0); list = [] }

-- a seat that was taken in
abbrev pub tgone : {I : Type 0} → TwinView I
tgone = record { base = gone; journal = place_at Idle 0; known = 0; firm = 0; mark = (0, 0); list = [] }

abbrev pub tnew : {I : Type 0} → View I → TwinView I
tnew b = record { base = b; journal = place_at Idle 0; known = 0; firm = 0; mark = (0, 0); list = [] }

-- eight words, two slots, and a number of seats
abbrev pub IsSized : TableId → ℕ → Type 0
IsSized id seats = (id.words ≡ 8) × (id.slots ≡ 2) × (0 < seats) × (seats < 2 ^ 32)

-- the seat has seen more
abbrev pub HasRaised : {S I : Type 0} → List I → Me S (TwinView I) → Me S (TwinView I) → Type 0
HasRaised added m w = w ≡ (based m.0 (seeing m.0.base (m.0.base.seen ++ added)), m.1)

module _ {V J I : Type 0} (stands : V → List I → Type 0) (firm : V → ℕ) (mark : V → ℕ × ℕ) (jstands : J → List I → Type 0) (jfirm : J → ℕ) (jmark : J → ℕ × ℕ) (maker : I → ℕ) where
  abbrev pub Slot : Type 0
  Slot = Part V J

  abbrev pub StateHome : ℕ → ℕ × ℕ → List I → Part V J → Type 0
  StateHome fw m log x = (y : V) × (x ≡ state_part y) × stands y log × (firm y ≤ fw) × (mark y ≡ m)

  abbrev pub JournalHome : ℕ → ℕ × ℕ → List I → Part V J → Type 0
  JournalHome fw m log x = (y : J) × (l : List I) × (x ≡ journal_part y) × jstands y l × Prefix l log × (fw ≤ jfirm y) × (jmark y ≡ m)

  pub record Knows (fw : ℕ) (m : ℕ × ℕ) (log : List I) (v : TwinView I) : Type 0 where
    pub known : v.known ≤ fw
    pub journal : v.journal.stage ≡ Holding → Prefix v.list log × (fw ≤ v.firm) × (v.mark ≡ m)
    pub state : v.base.place.stage ≡ Holding → v.mark ≡ m
    pub dead : v.base.live ≡ false → v.journal.stage ≡ Idle

  pub record Twinned (seats : ℕ) (s : State (Part V J) (TwinView I)) : Type 0 where
    pub log : List I
    pub both : ℕ × ℕ
    pub words : length s.words ≡ 8
    pub slots : length s.homes ≡ 2
    pub core : Core (StateHome (slice_index s.words 5) both) maker seats log (slice_index s.words 0) (slice_index s.words 1) (slice_index s.words 2) (get_elem? s.homes 0) (map base_of s.views)
    pub line : Line journal_of (JournalHome (slice_index s.words 5) both log) (slice_index s.words 3) (slice_index s.words 4) (get_elem? s.homes 1) s.views
    pub each : (j : ℕ) (v : TwinView I) → get_elem? s.views j ≡ some v → Knows (slice_index s.words 5) both log v

  abbrev pub Mine : Type 0
  Mine = Me (Part V J) (TwinView I)

  abbrev pub Draws : Mine → ℕ → Mine → Type 0
  Draws m n w = (t : ℕ) × (n ≡ t % 2 ^ 64) × (w ≡ (based m.0 (placed m.0.base (place_at Waiting t)), m.1))

  abbrev pub Takes : Mine → Mine → Type 0
  Takes m w = (y : V) × (log : List I) × (w ≡ (sholding m.0 log (firm y) (mark y), (0, state_part y) ∷ m.1)) × stands y log × Later maker m.0.base.number m.0.base.seen log
      × (m.0.journal.stage ≡ Holding → Prefix m.0.list log × (mark y ≡ m.0.mark))

  abbrev pub Looks : Mine → ℕ → Mine → Type 0
  Looks m n w = (n ≡ m.0.base.place.ticket % 2 ^ 64 → Takes m w) × (n ≢ m.0.base.place.ticket % 2 ^ 64 → w ≡ m)

  abbrev pub Raises : List I → Mine → Mine → Type 0
  Raises added m w = HasRaised added m w

  abbrev pub Passes : Mine → Mine → Type 0
  Passes m w = (y : V) × (m.1 ≡ (0, state_part y) ∷ rest m.1) × (w ≡ (sidling m.0 (mark y), rest m.1))

  abbrev pub JDraws : Mine → ℕ → Mine → Type 0
  JDraws m n w = (t : ℕ) × (n ≡ t % 2 ^ 64) × (w ≡ (jplaced m.0 (place_at Waiting t), m.1))

  abbrev pub JTakes : Mine → Mine → Type 0
  JTakes m w = (y : J) × (l : List I) × (w ≡ (jholding m.0 l (jfirm y) (jmark y), (1, journal_part y) ∷ m.1)) × jstands y l × (m.0.known ≤ jfirm y)

  abbrev pub JLooks : Mine → ℕ → Mine → Type 0
  JLooks m n w = (n ≡ m.0.journal.ticket % 2 ^ 64 → JTakes m w) × (n ≢ m.0.journal.ticket % 2 ^ 64 → w ≡ m)

  abbrev pub JRaises : ℕ → Mine → Mine → Type 0
  JRaises k m w = w ≡ (raised m.0 k, m.1)

  abbrev pub JPasses : Mine → Mine → Type 0
  JPasses m w = w ≡ (jidling m.0, rest m.1)

  abbrev pub Counts : Mine → ℕ → Mine → Type 0
  Counts m n w = (w ≡ m) × (m.0.base.place.stage ≡ Holding → n ≡ length m.0.base.seen)

  -- the state was taken out of its slot: the seat has seen what it stands for, which goes on from what it had seen. With the journal in hand
  -- that begins with the journal's list, and the two have the same mark
  abbrev pub HasTaken : Mine → V → Mine → Type 0
  HasTaken m y w = (log : List I) × (w ≡ (sholding m.0 log (firm y) (mark y), (0, no_part) ∷ m.1)) × stands y log × Later maker m.0.base.number m.0.base.seen log
      × (m.0.journal.stage ≡ Holding → Prefix m.0.list log × (mark y ≡ m.0.mark))

  -- the journal was
  abbrev pub HasTakenJournal : Mine → J → Mine → Type 0
  HasTakenJournal m y w = (l : List I) × (w ≡ (jholding m.0 l (jfirm y) (jmark y), (1, no_part) ∷ [])) × jstands y l × (m.0.known ≤ jfirm y)
