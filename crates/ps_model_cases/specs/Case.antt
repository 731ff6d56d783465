-- A worked case: lines, what each comes to, and what is handed to whom.
use Rattle.std.specs.Prelude.{◌≡◌, ℕ, Bool, List, [], ◌∷◌, Option, codes}
use Rattle.ps_types.specs.Print.{print}
use Rattle.ps_types.specs.Tree.{Tree}
use Rattle.ps_types.specs.declared.entry.Arrival.TheVariants.{Line as Bytes}
use Rattle.ps_types.specs.declared.entry.Entry.{Entry}
use Rattle.ps_types.specs.declared.entry.Entry.TheVariants.{Boot, Change}
use Rattle.ps_types.specs.declared.entry.Notice.{Notice}
use Rattle.ps_types.specs.declared.jid.Jid.{Jid}
use Rattle.ps_model.specs.Book.{State}
use Rattle.ps_model.specs.Replay.{notices, replay, to_address}
use Rattle.ps_model_cases.specs.Running.{Line, Step, comes, makes, entries, replies}

-- a stanza: the host of its stream, the number of its line, its moment if there is a clock, whether the journal is full, and its tree
pub record Sent : Type 0 where
  pub host : List ℕ
  pub number : ℕ
  pub moment : Option ℕ
  pub full : Bool
  pub tree : Tree

-- the line has the tree's print
abbrev pub line_of : Sent → Line
line_of sent = record { host = sent.host; number = sent.number; arrival = Bytes (print sent.tree) sent.moment; full = sent.full }

-- a stanza that makes an entry, and one that makes none, each with its reply, if it gets one; or an entry that the service makes by itself
pub data Exchange : Type 0 where
  kept : Sent → Option Tree → Exchange
  answered : Sent → Option Tree → Exchange
  own : Entry → Exchange

-- what comes
abbrev pub steps : List Exchange → List Step
steps [] = []
steps (kept sent reply ∷ rest) = comes (line_of sent) ∷ steps rest
steps (answered sent reply ∷ rest) = comes (line_of sent) ∷ steps rest
steps (own e ∷ rest) = makes e ∷ steps rest

-- and what it is said to come to
abbrev pub said : List Exchange → List (Option Tree)
said [] = []
said (kept sent reply ∷ rest) = reply ∷ said rest
said (answered sent reply ∷ rest) = reply ∷ said rest
said (own e ∷ rest) = said rest

abbrev pub change_of : Sent → Entry
change_of sent = Change sent.host sent.number sent.moment sent.tree

abbrev pub made : List Exchange → List Entry
made [] = []
made (kept sent reply ∷ rest) = change_of sent ∷ made rest
made (answered sent reply ∷ rest) = made rest
made (own e ∷ rest) = e ∷ made rest

-- the service boots first
abbrev pub boot : Entry
boot = Boot (codes "pubsub.example")

abbrev pub booted : State
booted = replay (boot ∷ [])

abbrev pub list_of : List Exchange → List Entry
list_of given = boot ∷ made given

-- the lines get exactly those replies and make exactly those entries, and of these each bare address is handed exactly its own of those notices
pub record Holds (given : List Exchange) (told : List Notice) : Type 0 where
  pub replies : replies booted (steps given) ≡ said given
  pub entries : entries booted (steps given) ≡ made given
  pub notices : (a : Jid) → notices (list_of given) a ≡ to_address a told
