-- What a deed does to a service: the entry that it makes, what is said of it, and the State that it leaves.
use Rattle.std.specs.Prelude.{◌≡◌, ℕ, true, false, cond, List, [], ◌∷◌, Option, Some, None}
use Rattle.std.specs.Option.{ForSome}
use Rattle.ps_types.specs.Print.{print}
use Rattle.ps_types.specs.Tree.{Tree}
use Rattle.ps_types.specs.declared.entry.Entry.{Entry}
use Rattle.ps_model.specs.Book.{State}
use Rattle.ps_model.specs.Replay.{accepted}
use Rattle.ps_model.specs.Replies.{entry_of, reply_to}
use Rattle.ps_book_laws.specs.Addressed.{IsTimely}
use Rattle.ps_secrecy.specs.Alike.{added, notes}
use Rattle.ps_secrecy_step.specs.declared.deed.Deed.{Deed}
use Rattle.ps_secrecy_step.specs.declared.deed.Deed.TheVariants.{Asked, Done}
use Rattle.ps_secrecy_step.specs.declared.deed.Said.{Said}

-- the entry that it makes, if any
abbrev pub made_by : State → Deed → Option Entry
made_by s (Asked host line arrival) = entry_of host s.book line arrival false
made_by s (Done e) = cond (accepted s e) (Some e) None

-- the reply, if there is one
abbrev pub reply_by : State → Deed → Option Tree
reply_by s (Asked host line arrival) = reply_to host s.book line arrival false
reply_by s (Done e) = None

abbrev pub printed : Option Tree → List (List ℕ)
printed None = []
printed (Some t) = print t ∷ []

-- the State that it leaves
abbrev pub state_after : State → Deed → State
state_after s deed = added s (made_by s deed)

-- what the service says of it
pub record Says (s : State) (deed : Deed) (said : Said) : Type 0 where
  pub replies : said.replies.items ≡ printed (reply_by s deed)
  pub notices : said.notices.items ≡ notes s (made_by s deed)

-- the entry that it makes, if any, is accepted at its place, and came at a moment that a stamp can tell
abbrev pub IsDue : State → Deed → Type 0
IsDue s deed = ForSome (made_by s deed) (λ e. (accepted s e ≡ true) × IsTimely e)
