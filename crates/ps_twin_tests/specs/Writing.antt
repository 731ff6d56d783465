-- What is asked of a seat that writes.
use Rattle.std.specs.Prelude.{◌≡◌, ℕ, ◌<◌, ◌≤◌, List, [], ◌∷◌, vec_len, vec_capacity}
use Rattle.ps_twin.specs.declared.twin.TwinSeat.{TwinSeat}
use Rattle.ps_twin.specs.declared.twin.Twin.{Twin}
use Rattle.ps_twin.specs.Seats.{seen_of, number_of, known_of, mark_of, IsSeatOf, IsFree, HasState}
use Rattle.ps_twin_tests.specs.declared.diary.Entry.{Entry}
use Rattle.ps_twin_tests.specs.declared.diary.Diary.{Diary}
use Rattle.ps_twin_tests.specs.declared.diary.Journal.{Journal}

-- the free seat of that number
pub record IsReady (t : Twin Diary Journal Entry) (by : ℕ) (s : TwinSeat Diary Journal Entry) : Type 0 where
  pub twin : IsSeatOf t s
  pub free : IsFree s
  pub number : number_of s ≡ by

-- the seat may write the entry and give the diary back
pub record MayWrite (t : Twin Diary Journal Entry) (s : TwinSeat Diary Journal Entry) (diary : Diary) (entry : Entry) (added : List Entry) : Type 0 where
  pub same : added ≡ entry ∷ []
  pub twin : IsSeatOf t s
  pub held : HasState s
  pub own : entry.by ≡ number_of s
  pub stands : diary.entries.items ≡ seen_of s
  pub room : vec_len diary.entries < vec_capacity diary.entries
  pub firm : diary.flushed ≤ known_of s
  pub mark : (diary.begun, 0) ≡ mark_of s
