-- What comes of opening a store to read it.
use Rattle.std.proofs.Common.{inl, ℕ, List, [], ◌∷◌}
use Rattle.ps_journal.specs.Opened.{ArePlaced, StaysIfDamaged}
use Rattle.ps_journal.specs.Places.{entries_in}
use Rattle.ps_journal.specs.declared.judging.Placed.{Placed}
use Rattle.ps_journal.specs.declared.opening.JournalWhy.{JournalWhy}
use Rattle.ps_journal.specs.declared.opening.JournalWhy.TheVariants as journal
use Rattle.ps_hall_open.specs.OpenRead.{AreShort, IfFoundDamaged, StaysOrUpgrades}
use Rattle.ps_hall_open.specs.Refused.{read_why}

pub short-entries : (placed : List Placed) → ArePlaced placed → AreShort (entries_in placed)
short-entries [] are = tt
short-entries (p ∷ placed) are = (are.0.fits, short-entries placed are.1)

-- where the journal finds damage, the bytes stay
pub read-stays : (old new : List ℕ) (why : JournalWhy) → StaysIfDamaged why old new → IfFoundDamaged (read_why why) (StaysOrUpgrades old new)
read-stays old new (journal.Damaged at before) stays = inl stays
read-stays old new journal.Store stays = tt
read-stays old new journal.Memory stays = tt
