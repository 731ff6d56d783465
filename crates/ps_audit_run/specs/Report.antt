-- The lines of an audit's report, each with its newline.
use Rattle.std.specs.Prelude.{List, [], ◌∷◌, ◌++◌, ℕ, Option, Some, None, codes, map}
use Rattle.ps_types.specs.Address.{jid_text}
use Rattle.ps_types.specs.Nodes.{node_at}
use Rattle.ps_types.specs.declared.denial.Verdict.{Verdict}
use Rattle.ps_types.specs.declared.entry.Entry.{Entry}
use Rattle.ps_types.specs.declared.jid.Jid.{Jid}
use Rattle.ps_types.specs.declared.node.NodeKey.{NodeKey}
use Rattle.ps_types.specs.declared.rows.NodeRow.{NodeRow}
use Rattle.ps_model.specs.Book.{Book}
use Rattle.ps_model.specs.Replay.{replay}
use Rattle.ps_audit_laws.specs.History.{history, line_text}
use Rattle.ps_audit_laws.specs.declared.told.ExplainLine.{ExplainLine}
use Rattle.ps_audit_laws.specs.Readers.{others, readers}
use Rattle.ps_audit_laws.specs.Verdicts.{verdict_text}

abbrev pub ended : List ℕ → List ℕ
ended text = text ++ 10 ∷ []

-- ---- how the verdicts for an address at a node came about

abbrev pub history_report : List ExplainLine → List (List ℕ)
history_report history = map (λ line. ended (line_text line)) history

abbrev pub explain_report : Jid → NodeKey → List Entry → List (List ℕ)
explain_report who node E = history_report (history E who node)

-- ---- who may read a node

-- a known address and what it may do
abbrev pub known_text : Jid × Verdict → List ℕ
known_text line = jid_text line.0 ++ (codes " " ++ verdict_text line.1)

abbrev pub others_text : Verdict → List ℕ
others_text verdict = codes "others " ++ verdict_text verdict

abbrev pub list_report : List (Jid × Verdict) → Verdict → List (List ℕ)
list_report known rest = map (λ line. ended (known_text line)) known ++ ended (others_text rest) ∷ []

abbrev pub readers_at : Option NodeRow → Book → List (List ℕ)
readers_at None book = ended (codes "no node") ∷ []
readers_at (Some row) book = list_report (readers book row) (others row)

abbrev pub readers_in : Book → NodeKey → List (List ℕ)
readers_in book node = readers_at (node_at node book.nodes) book

abbrev pub readers_report : NodeKey → List Entry → List (List ℕ)
readers_report node E = readers_in (replay E).book node
