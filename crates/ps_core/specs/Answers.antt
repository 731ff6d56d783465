-- What an answer is made of.
use Rattle.std.specs.Prelude.{◌≡◌, ℕ, List, Option, Some, None}
use Rattle.ps_names.specs.declared.replies.ReplyHead.{ReplyHead}
use Rattle.ps_types.specs.declared.request.Request.{Request}
use Rattle.ps_model.specs.Grammar.{id_in}
use Rattle.ps_types.specs.Tree.{name_of}
use Rattle.ps_types.specs.Tree.{Tree}
use Rattle.ps_types.specs.declared.entry.Entry.{Entry}

-- there is such an answer only where there is an entry
abbrev pub full_by : Option Entry → Option Tree → Option Tree
full_by None reply = None
full_by (Some entry) reply = reply

-- the head is that of a reply to the stanza
pub record AnswersStanza (head : ReplyHead) (t : Tree) (r : Request) (unsupported : List ℕ) : Type 0 where
  pub same_name : head.name ≡ name_of t
  pub from_target : head.from ≡ r.target
  pub to_sender : head.to ≡ r.from
  pub same_id : head.id ≡ id_in t
  pub same_feature : head.feature ≡ unsupported
