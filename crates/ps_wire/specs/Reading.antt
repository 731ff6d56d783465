-- What contracts see of a reader of lines, and what one call of it does.
use Rattle.std.specs.Prelude.{ℕ, Bool, false, IsTrue, ◌≡◌, ◌≢◌, ◌<◌, ◌≤◌, ◌+◌, ◌-◌, ◌^◌, List, [], length, Some, None}
use Rattle.std.specs.declared.option.Option.{Option}
use Rattle.std.specs.Io.KnownBytes.{prepend_known, Consumes}
use Rattle.ps_types.specs.Lines.{first_line, after_line, NoNewline}
use Rattle.ps_wire.specs.Line.{StandsFor}
use Rattle.ps_wire.specs.declared.streams.Source.{Ghosts}
use Rattle.ps_wire.specs.declared.line.Line.{Line}
use Rattle.ps_wire.specs.declared.lines.Lines.{Lines}
use Rattle.ps_wire.specs.declared.lines.NextLine.{NextLine}
use Rattle.ps_wire.specs.declared.lines.NextLine.TheVariants.{Line as Whole, TooLong, End}
use Rattle.ps_wire.specs.declared.lines.NextLineRefusal.{NextLineRefusal}

-- where it reads
abbrev pub source_of : {S : Type 0} {g : Ghosts S} → Lines S g → S
source_of lines = lines.source

-- the bytes that it was given and that no line has taken
abbrev pub held_of : {S : Type 0} {g : Ghosts S} → Lines S g → List ℕ
held_of lines = lines.held

-- how many bytes its source has given
abbrev pub given_of : {S : Type 0} {g : Ghosts S} → Lines S g → ℕ
given_of lines = lines.given

-- whether its source has answered that the input ended
abbrev pub ended_of : {S : Type 0} {g : Ghosts S} → Lines S g → Bool
ended_of lines = lines.ended

-- the refusal that it answers from now on
abbrev pub stopped_of : {S : Type 0} {g : Ghosts S} → Lines S g → Option NextLineRefusal
stopped_of lines = lines.stopped

-- the bytes before it: those that it holds, and those still to come
abbrev pub rest_of : {S : Type 0} {g : Ghosts S} → Lines S g → Option (List ℕ)
rest_of {S} {g} lines = prepend_known (held_of lines) (g.left (source_of lines))

-- how many bytes lines may still take: of the first 2^40 that its source gives, all that no line has taken
abbrev pub budget_of : {S : Type 0} {g : Ghosts S} → Lines S g → ℕ
budget_of lines = (2 ^ 40 - given_of lines) + length (held_of lines)

-- nothing is read yet
pub record IsFresh {S : Type 0} {g : Ghosts S} (lines : Lines S g) : Type 0 where
  pub holds_none : held_of lines ≡ []
  pub given_none : given_of lines ≡ 0
  pub not_ended : ended_of lines ≡ false
  pub going : stopped_of lines ≡ None
  pub before : rest_of lines ≡ g.left (source_of lines)

-- the answer is the first line of the bytes before it, and the rest stays
abbrev pub IsNextOf : NextLine → List ℕ → List ℕ → Type 0
IsNextOf (Whole line) bytes rest = (bytes ≢ []) × (line ≡ first_line bytes) × (rest ≡ after_line bytes) × (length line ≤ 262144)
IsNextOf TooLong bytes rest = (262144 < length (first_line bytes)) × (rest ≡ after_line bytes)
IsNextOf End bytes rest = (bytes ≡ []) × (rest ≡ [])

abbrev pub IsNext : NextLine → Option (List ℕ) → Option (List ℕ) → Type 0
IsNext next None rest = Unit {0}
IsNext next (Some bytes) None = ⊥
IsNext next (Some bytes) (Some rest) = IsNextOf next bytes rest

-- a line has no newline, and at most 262,144 bytes
abbrev pub IsLine : NextLine → Type 0
IsLine (Whole line) = NoNewline line × (length line ≤ 262144)
IsLine TooLong = Unit {0}
IsLine End = Unit {0}

-- a line takes its own bytes at least, and one byte at least
abbrev pub Takes : NextLine → ℕ → ℕ → Type 0
Takes (Whole line) before now = (now < before) × (now + length line ≤ before)
Takes TooLong before now = now + 262144 < before
Takes End before now = now ≡ before

-- the end comes where no byte is held and the source has answered that the input ended
abbrev pub Ends : NextLine → List ℕ → Bool → Type 0
Ends (Whole line) held ended = Unit {0}
Ends TooLong held ended = Unit {0}
Ends End held ended = (held ≡ []) × IsTrue ended

-- the bytes that the source gave are those that were counted
abbrev pub Gave : Option (List ℕ) → Option (List ℕ) → ℕ → ℕ → Type 0
Gave before now given given_now = (piece : List ℕ) × Consumes before now piece × (given_now ≡ given + length piece)

-- the first line neither ends nor meets the end of input within that many bytes
abbrev pub IsPastLimit : ℕ → Option (List ℕ) → Type 0
IsPastLimit budget None = Unit {0}
IsPastLimit budget (Some bytes) = budget ≤ length (first_line bytes)

-- it ends, or meets the end of input, within that many bytes
abbrev pub IsBeforeLimit : ℕ → Option (List ℕ) → Type 0
IsBeforeLimit budget None = Unit {0}
IsBeforeLimit budget (Some bytes) = length (first_line bytes) < budget

-- bytes without a newline are a line only where the input has ended
abbrev pub CutAtNewline : Option (List ℕ) → Bool → Type 0
CutAtNewline None ended = Unit {0}
CutAtNewline (Some bytes) ended = NoNewline bytes → IsTrue ended

-- what stood before the bytes that the source still has is no whole line
abbrev pub IsWithoutLine : Option (List ℕ) → Option (List ℕ) → Type 0
IsWithoutLine before left = (front : List ℕ) × NoNewline front × Consumes before left front

-- the source was left alone
pub record ReadNothing {S : Type 0} {g : Ghosts S} (old new : Lines S g) : Type 0 where
  pub source : source_of new ≡ source_of old
  pub given : given_of new ≡ given_of old
  pub ended : ended_of new ≡ ended_of old

-- nothing was read, and nothing was taken
pub record StandsStill {S : Type 0} {g : Ghosts S} (old new : Lines S g) : Type 0 where
  pub read : ReadNothing old new
  pub held : held_of new ≡ held_of old

-- a line's first part was taken, and holds no newline
pub record LeavesOff (line : Line) (before now : Option (List ℕ)) (budget_before budget : ℕ) : Type 0 where
  pub front : List ℕ
  pub stands : StandsFor line front
  pub clean : NoNewline front
  pub taken : Consumes before now front
  pub counted : budget + length front ≡ budget_before
