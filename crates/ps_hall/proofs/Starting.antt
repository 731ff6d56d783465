-- What is opened stands for no deeds.
use Rattle.std.proofs.Common.{◌≡◌, List, ℕ, [], ◌∙◌, sym}
use Rattle.std.specs.Prelude.{is_some}
use Rattle.ps_disk.specs.declared.device.Disk.{Ghosts}
use Rattle.ps_hall_state.specs.declared.state.State.{State}
use Rattle.ps_hall_store.specs.Stand.{broken_in}
use Rattle.ps_hall_store.specs.declared.store.Store.{Store}
use Rattle.ps_hall_flush.specs.Homes.{HomeStands, marked, state_mark, store_mark}
use Rattle.ps_hall_flush.specs.Origin.{Origin}
use Rattle.ps_hall.specs.Start.{MayStart}

pub no_deeds : {D : Type 0} {g : Ghosts D} (o : Origin) (v : State) (y : Store D g) (hosts : List (List ℕ)) → MayStart o v y hosts → HomeStands o v []
no_deeds o v y hosts may = record { lawful = may.lawful; named = may.named; hosts = may.rows ∙ sym may.hosts_are; limits = may.limits; owned = tt; full = tt; begun = tt; stands = may.state }

-- neither tells of a fault, and so their marks are one
pub one_mark : {D : Type 0} {g : Ghosts D} (o : Origin) (v : State) (y : Store D g) (hosts : List (List ℕ)) → MayStart o v y hosts → state_mark v ≡ store_mark y
one_mark o v y hosts may =
    let broken : v.broken ≡ is_some (broken_in y) = may.state.broken ∙ may.archive.broken in
    λ i. marked (broken i) (may.mark i)
