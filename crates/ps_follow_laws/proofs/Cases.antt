-- A boot's record is 29 bytes; one of the third place leaves a gap behind one entry; the answer to what would commit.
use Rattle.std.proofs.Common.{◌≡◌, [], ◌∷◌, refl}
use Rattle.std.specs.Prelude.{codes, length}
use Rattle.ps_types.specs.declared.entry.Entry.{Entry}
use Rattle.ps_types.specs.declared.entry.Entry.TheVariants.{Boot}
use Rattle.ps_follow_laws.specs.Feed.{Sent, adds, beyond, fate, repeats, sent_bytes}

boot : Entry
boot = Boot (codes "pubsub.example")

first : Sent
first = record { place = 0; entry = boot }

third : Sent
third = record { place = 2; entry = boot }

bytes : sent_bytes first ≡ 0 ∷ 0 ∷ 0 ∷ 0 ∷ 0 ∷ 0 ∷ 0 ∷ 0 ∷ 0 ∷ 0 ∷ 0 ∷ 17 ∷ 0 ∷ 0 ∷ 14 ∷ codes "pubsub.example"
unfolding first boot
bytes = refl

size : length (sent_bytes first) ≡ 29
unfolding first boot
size = refl

added : fate [] first ≡ adds
unfolding first boot
added = refl

repeated : fate (boot ∷ []) first ≡ repeats
unfolding first boot
repeated = refl

left : fate (boot ∷ []) third ≡ beyond
unfolding third boot
left = refl
