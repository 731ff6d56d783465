-- What a contract sees of a follower.
use Rattle.std.specs.Prelude.{ℕ, List, Option}
use Rattle.ps_model.specs.Book.{State}
use Rattle.ps_follow.specs.declared.refusal.FeedRefusal.{FeedRefusal}

-- the State that its entries leave, their bytes, how many bytes of its stream are in whole records, those behind them, and the refusal at which it stopped
pub record Following : Type 0 where
  pub state : State
  pub log : List (List ℕ)
  pub at : ℕ
  pub rest : List ℕ
  pub stuck : Option FeedRefusal
