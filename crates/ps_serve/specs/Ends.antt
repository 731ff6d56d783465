-- The status of a run over its streams: the first of the causes for which their workers ended, but where the store failed.
use Rattle.std.specs.Prelude.{ℕ, nat_lt, List, [], ◌∷◌, if◌then◌else◌}
use Rattle.ps_workers.specs.EndCause.{EndCause}
use Rattle.ps_workers.specs.EndCause.TheVariants as writer
use Rattle.ps_workers.specs.ReadEnd.{ReadEnd}
use Rattle.ps_workers.specs.ReadEnd.TheVariants as reader
use Rattle.ps_workers.specs.Headline.{Worked}
use Rattle.ps_status.specs.declared.status.Status.{Status}
use Rattle.ps_status.specs.declared.status.Status.TheVariants.{Done, Usage, OpenFault, FeedBad, StoreDamaged, StoreFault, StoreFull, Occupied, Memory, StreamFault, StreamLong}

-- where a status stands among the causes of a run: the greatest decides
abbrev pub rank : Status → ℕ
rank Done = 0
rank StreamLong = 1
rank StreamFault = 2
rank Memory = 3
rank StoreFull = 4
rank StoreFault = 5
rank (StoreDamaged at) = 6
rank (FeedBad at) = 7
rank OpenFault = 8
rank Usage = 9
rank Occupied = 10

abbrev pub worst : Status → Status → Status
worst one other = if nat_lt (rank one) (rank other) then other else one

-- that of a writer
abbrev pub write_status : EndCause → Status
write_status writer.Finished = Done
write_status writer.WriteFault = StreamFault
write_status writer.Store = StoreFault
write_status writer.Full = StoreFull
write_status writer.Memory = Memory

-- A reader that finds its writer ended has that one's cause. No stream ends so whose writer finished (`closed` of `HasEnded` and of ps_workers' `HasReasons`).
abbrev pub closed_status : EndCause → Status
closed_status writer.Finished = Memory
closed_status writer.WriteFault = StreamFault
closed_status writer.Store = StoreFault
closed_status writer.Full = StoreFull
closed_status writer.Memory = Memory

-- that of both workers of a stream
abbrev pub stream_status : ReadEnd → EndCause → Status
stream_status reader.Ended wrote = write_status wrote
stream_status reader.ReadFault wrote = worst StreamFault (write_status wrote)
stream_status reader.Long wrote = worst StreamLong (write_status wrote)
stream_status reader.Closed wrote = closed_status wrote
stream_status reader.Store wrote = worst StoreFault (write_status wrote)
stream_status reader.Full wrote = worst StoreFull (write_status wrote)
stream_status reader.Memory wrote = worst Memory (write_status wrote)

-- of all streams
abbrev pub worst_in : {E : Type 0} → (E → ReadEnd) → (E → EndCause) → List E → Status
worst_in read wrote [] = Done
worst_in read wrote (e ∷ es) = worst (stream_status (read e) (wrote e)) (worst_in read wrote es)

abbrev pub worst_of : List Worked → Status
worst_of worked = worst_in (λ (t : Worked). t.read) (λ (t : Worked). t.wrote) worked

-- a status of a run that served
abbrev pub IsServing : Status → Type 0
IsServing Done = Unit {0}
IsServing StreamLong = Unit {0}
IsServing StreamFault = Unit {0}
IsServing Memory = Unit {0}
IsServing StoreFull = Unit {0}
IsServing StoreFault = Unit {0}
IsServing (StoreDamaged at) = ⊥
IsServing (FeedBad at) = ⊥
IsServing OpenFault = ⊥
IsServing Usage = ⊥
IsServing Occupied = ⊥
