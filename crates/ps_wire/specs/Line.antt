-- What a line that is being read stands for, and what it becomes.
use Rattle.std.specs.Prelude.{ℕ, ◌≡◌, ◌≢◌, ◌<◌, ◌≤◌, List, [], length, MatchBool}
use Rattle.ps_wire.specs.declared.line.Line.{Line}
use Rattle.ps_wire.specs.declared.lines.NextLine.{NextLine}
use Rattle.ps_wire.specs.declared.lines.NextLine.TheVariants.{Line as Whole, TooLong, End}

abbrev pub StandsFor : Line → List ℕ → Type 0
StandsFor line bytes = MatchBool line.too_long (262144 < length bytes) ((line.bytes.items ≡ bytes) × (length bytes ≤ 262144))

abbrev pub IsFinished : NextLine → List ℕ → Type 0
IsFinished (Whole line) bytes = (line ≡ bytes) × (length bytes ≤ 262144)
IsFinished TooLong bytes = 262144 < length bytes
IsFinished End bytes = ⊥

abbrev pub IsFinishedAtEnd : NextLine → List ℕ → Type 0
IsFinishedAtEnd (Whole line) bytes = (line ≡ bytes) × (length bytes ≤ 262144) × (bytes ≢ [])
IsFinishedAtEnd TooLong bytes = 262144 < length bytes
IsFinishedAtEnd End bytes = bytes ≡ []
