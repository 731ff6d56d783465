-- What a follower answers.
use Rattle.std.specs.Prelude.{◌≡◌, ℕ, List, Option, Some, None, length}
use Rattle.ps_types.specs.declared.entry.Arrival.{Arrival}
use Rattle.ps_types.specs.declared.entry.Entry.{Entry}
use Rattle.ps_types.specs.declared.entry.Entry.TheVariants.{Boot, Change, Handed, Gone, Base}
use Rattle.ps_types.specs.declared.request.Request.{Request}
use Rattle.ps_types.specs.Tree.{Tree}
use Rattle.ps_model.specs.Replay.{replay}
use Rattle.ps_follow_laws.specs.Answer.{answer_to, refusal}
use Rattle.ps_follow.specs.declared.answering.FollowAnswer.{FollowAnswer}

-- the place is the count of the entries, and the reply is the answer at them
pub record IsAnswerAt (F : List Entry) (host : List ℕ) (line : ℕ) (arrival : Arrival) (a : FollowAnswer) : Type 0 where
  pub place : a.place ≡ length F
  pub reply : a.reply ≡ answer_to host (replay F).book line arrival

-- it refuses the request of a line's entry; of an entry that no line makes nothing is said
abbrev pub IsRefusal : Entry → Option Request → Option Tree → Type 0
IsRefusal (Boot service) r o = Unit {0}
IsRefusal (Change host line moment t) None o = Unit {0}
IsRefusal (Change host line moment t) (Some r) o = o ≡ refusal t r
IsRefusal (Handed to) r o = Unit {0}
IsRefusal (Gone host) r o = Unit {0}
IsRefusal (Base row) r o = Unit {0}
