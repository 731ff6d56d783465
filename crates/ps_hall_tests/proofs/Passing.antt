-- The passes of all hosts, after calls of the first host's.
use Rattle.std.proofs.Common.{◌≡◌, ◌≢◌, ℕ, zero, suc, ◌<◌, List, [], ◌∷◌, Some, length, ap, sym, ◌∙◌, arith, refl, subst}
use Rattle.std.specs.Prelude.{slice_get, slice_set}
use Rattle.ps_disk.specs.declared.device.Disk.{Ghosts}
use Rattle.ps_types.specs.declared.jid.Jid.{Jid}
use Rattle.ps_hall_flush.specs.Origin.{Origin}
use Rattle.ps_hall.specs.Passes.{AreFresh, AreOf, ArePasses, OurTwin}
use Rattle.ps_hall.specs.declared.hall.HostPasses.{HostPasses}
use Rattle.ps_hall_tests.specs.Passes.{IsFree, Reads, Writes}

module _ {B D : Type 0} {g : Ghosts D} (o : Origin) (t : OurTwin B D g) where
  of_first : (p : HostPasses B D g) → Reads o t p.reader → Writes o t p.writer → AreOf o t 0 p
  of_first p r w = record { reader = r.reader; writer = w.writer; at_reader = r.first; at_writer = w.first }

  each_of : (q p : HostPasses B D g) (qs : List (HostPasses B D g)) → ArePasses o t (q ∷ qs) → AreOf o t 0 p
      → (k : ℕ) (r : HostPasses B D g) → slice_get (p ∷ qs) k ≡ Some r → AreOf o t k r
  each_of q p qs are of zero r h = let same : p ≡ r = cc h in subst (AreOf o t 0) same of
  each_of q p qs are of (suc k) r h = are.each (suc k) r h

  pub kept : (ps : List (HostPasses B D g)) (p : HostPasses B D g) → 0 < length ps → ArePasses o t ps → Reads o t p.reader → Writes o t p.writer → ArePasses o t (slice_set ps 0 p)
  kept [] p some are r w = absurd (omega (arith, some))
  kept (q ∷ qs) p some are r w = record { size = are.size; each = each_of q p qs are (of_first p r w) }

  pub first_reads : (ps : List (HostPasses B D g)) (p : HostPasses B D g) → slice_get ps 0 ≡ Some p → AreFresh o t ps → Reads o t p.reader
  first_reads ps p got fresh =
      let of = fresh.all.each 0 p got in
      record { reader = of.reader; first = of.at_reader }

  pub first_free : (ps : List (HostPasses B D g)) (p : HostPasses B D g) → slice_get ps 0 ≡ Some p → AreFresh o t ps → IsFree o t p.writer
  first_free ps p got fresh =
      let of = fresh.all.each 0 p got in
      let writer = (fresh.each 0 p got).1 in
      record { writes = record { writer = of.writer; first = of.at_writer }; none = writer.hand; hand = writer.none }

-- what is in hand, by how many they are
pub some_of : (hand : List Jid) (n : ℕ) → n ≡ length hand → n ≡ 1 → hand ≢ []
some_of hand n size one none = (let l = ap length none in let z : 1 ≡ 0 = sym one ∙ (size ∙ l) in cc z)

pub none_of : (hand : List Jid) (n : ℕ) → n ≡ length hand → n ≡ 0 → hand ≡ []
none_of [] n size none = refl
none_of (a ∷ hand) n size none = absurd (let z : suc (length hand) ≡ 0 = sym size ∙ none in cc z)
