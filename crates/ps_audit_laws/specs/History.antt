-- How the verdicts for an address at a node came about.
use Rattle.std.specs.Prelude.{ℕ, zero, suc, Bool, true, not, nat_le, List, [], ◌∷◌, ◌++◌, filter, map, length, take, Option, None, cond, codes, decimal}
use Rattle.std.specs.Str.{bytes_eq}
use Rattle.ps_types.specs.declared.entry.Entry.{Entry}
use Rattle.ps_types.specs.declared.jid.Jid.{Jid}
use Rattle.ps_types.specs.declared.node.NodeKey.{NodeKey}
use Rattle.ps_model.specs.Replay.{replay}
use Rattle.ps_audit_laws.specs.declared.told.ExplainLine.{ExplainLine}
use Rattle.ps_audit_laws.specs.declared.told.Four.{Four}
use Rattle.ps_audit_laws.specs.Verdicts.{four_at, four_text}

-- the verdicts after the first p entries
abbrev pub verdicts_after : List Entry → Jid → NodeKey → ℕ → Option Four
verdicts_after E who node p = four_at (replay (take p E)).book node who

-- from 0 to n
abbrev pub places : ℕ → List ℕ
places zero = 0 ∷ []
places (suc n) = places n ++ suc n ∷ []

-- at the start, and where the text isn't that of the place before
abbrev pub is_told : List Entry → Jid → NodeKey → ℕ → Bool
is_told E who node zero = true
is_told E who node (suc p) = not (bytes_eq (four_text (verdicts_after E who node (suc p))) (four_text (verdicts_after E who node p)))

abbrev pub line_after : List Entry → Jid → NodeKey → ℕ → ExplainLine
line_after E who node p = record { after = p; four = verdicts_after E who node p }

abbrev pub history : List Entry → Jid → NodeKey → List ExplainLine
history E who node = map (line_after E who node) (filter (is_told E who node) (places (length E)))

abbrev pub line_text : ExplainLine → List ℕ
line_text line = decimal line.after ++ (codes " " ++ four_text line.four)

-- what the last line up to p says; the lines rise
abbrev pub told_from : Option Four → ℕ → List ExplainLine → Option Four
told_from found p [] = found
told_from found p (line ∷ lines) = told_from (cond (nat_le line.after p) line.four found) p lines

abbrev pub told_at : ℕ → List ExplainLine → Option Four
told_at p lines = told_from None p lines
