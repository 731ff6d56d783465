-- The entries of a store, written as a feed.
use Rattle.std.specs.Prelude.{◌≡◌, ℕ, ◌≤◌, ◌-◌, ◌%◌, ◌^◌, List, length}
use Rattle.std.specs.Io.KnownBytes.{Appends}
use Rattle.ps_base.specs.Causes.{Rose}
use Rattle.ps_types.specs.declared.entry.Entry.{Entry}
use Rattle.ps_io.specs.Held.{Held}
use Rattle.ps_wire.specs.Writing.{AppendsFront}
use Rattle.ps_follow_laws.specs.Feed.{feed_of}
use Rattle.ps_follow_laws.specs.Follow.{records_from}
use Rattle.ps_follow_run.specs.declared.feeding.FeedEnd.{FeedEnd}
use Rattle.ps_follow_run.specs.declared.feeding.FeedEnd.TheVariants as end
use Rattle.ps_follow_run.specs.declared.feeding.Records.{Records}

-- these are the records of the entries from that place on
pub record AreRecords (from : ℕ) (E : List Entry) (r : Records) : Type 0 where
  pub before_is : r.before ≡ from - length E
  pub place_is : r.place ≡ length E % 2 ^ 64
  pub bytes_are : r.bytes.items ≡ feed_of (records_from from E)

-- The records from that place on were written, or a front of them. The count of faults doesn't fall, and it rose where the sink failed.
pub record FedOut (E : List Entry) (from : ℕ) (before now : Held) (why : FeedEnd) : Type 0 where
  pub later : before.faults ≤ now.faults
  pub front : AppendsFront before.bytes now.bytes (feed_of (records_from from E))
  pub whole : why ≡ end.Done → Appends before.bytes now.bytes (feed_of (records_from from E))
  pub fault : why ≡ end.WriteFault → Rose before.faults now.faults
