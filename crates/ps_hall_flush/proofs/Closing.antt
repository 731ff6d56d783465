-- Two values with one mark, of which the store's list begins the state's.
use Rattle.std.proofs.Common.{◌≡◌, ◌+◌, ◌<◌, ◌≤◌, ◌^◌, false, List, length, length-append, ap, sym, ◌∙◌, arith}
use Rattle.std.specs.Prelude.{is_some}
use Rattle.ps_disk.specs.declared.device.Disk.{Ghosts}
use Rattle.ps_trace.specs.declared.deed.Deed.{Deed}
use Rattle.ps_hall_state.specs.Stand.{entries_of}
use Rattle.ps_hall_state.specs.declared.state.State.{State}
use Rattle.ps_hall_state.proofs.Stepping.{count-is}
use Rattle.ps_hall_store.specs.Stand.{broken_in, mark_of}
use Rattle.ps_hall_store.specs.declared.store.Store.{Store}
use Rattle.ps_twin.specs.Twins.{Prefix}
use Rattle.ps_hall_flush.specs.Homes.{ArchiveStands, HomeStands, numbers_of, state_mark, store_mark, world_at}
use Rattle.ps_hall_flush.specs.Origin.{Origin}
use Rattle.ps_hall_flush.proofs.Logs.{prefix_follows}
use Rattle.ps_hall_flush.proofs.Marking.{flags_same, quiet_mark, whole_mark}

-- a store has so few entries that they can be counted
pub few_entries : (o : Origin) (v : State) (log : List Deed) → HomeStands o v log → length (world_at o log).entries ≤ 2 ^ 61 + 2 ^ 30
few_entries o v log is =
    let s = is.stands in
    let count : v.service.state.count ≡ length (world_at o log).entries = ap (λ b. b.count) s.state ∙ count-is (world_at o log).entries in
    let few = s.within.few in
    let fits = s.within.fits in
    omega (arith, count, few, fits)

few_begun : (o : Origin) (v : State) (log : List Deed) → HomeStands o v log → v.count < 18446744073709551615
few_begun o v log is =
    let b = is.stands.batch in
    let few = few_entries o v log is in
    let all = ap length b.all in
    let parts = length-append b.begun (entries_of v.batch) in
    let size = b.size in
    omega (arith, few, all, parts, size)

module _ {D : Type 0} {g : Ghosts D} (o : Origin) (v : State) (y : Store D g) (log list : List Deed) where
  pub few_kept : HomeStands o v log → ArchiveStands o y list → Prefix list log → is_some (broken_in y) ≡ false → y.count < 18446744073709551615
  few_kept home archive front whole =
      let later = prefix_follows o list log front home.owned in
      let few = few_entries o v log home in
      let all = ap length later.entries in
      let parts = length-append (world_at o list).entries later.more in
      let count = (archive.whole (archive.broken ∙ whole)).count in
      omega (arith, few, all, parts, count)

  -- the state tells of a fault exactly where the store is broken
  pub both_broken : HomeStands o v log → ArchiveStands o y list → Prefix list log → state_mark v ≡ store_mark y → v.broken ≡ is_some (broken_in y)
  both_broken home archive front mark =
      flags_same v.broken (is_some (broken_in y)) v.count y.count (ap (λ m. m.0) mark) (λ unbroken. few_begun o v log home) (λ whole. few_kept home archive front whole)

  -- and where it tells of none, the two count the same frames
  pub same_numbers : HomeStands o v log → ArchiveStands o y list → Prefix list log → state_mark v ≡ store_mark y → v.broken ≡ false → numbers_of v ≡ mark_of y
  same_numbers home archive front mark unbroken = sym (quiet_mark v unbroken) ∙ (mark ∙ whole_mark y (sym (both_broken home archive front mark) ∙ unbroken))
