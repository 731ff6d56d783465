-- The seats of all passes are all seats.
use Rattle.std.proofs.Common.{◌≡◌, ℕ, zero, suc, ◌+◌, ◌<◌, List, [], ◌∷◌, Some, length, refl, subst, arith}
use Rattle.std.specs.Prelude.{slice_get}
use Rattle.ps_disk.specs.declared.device.Disk.{Ghosts}
use Rattle.ps_twin.specs.declared.twin.TwinSeat.{TwinSeat}
use Rattle.ps_twin.specs.Seats.{AreAll, IsFree, IsSeatOf, number_of, seats_of}
use Rattle.ps_trace.specs.declared.deed.Deed.{Deed}
use Rattle.ps_hall_flush.specs.Origin.{Origin}
use Rattle.ps_hall.specs.Passes.{AreOf, ArePasses, OurTwin, seats_in}
use Rattle.ps_hall_flush.specs.declared.home.Archive.{Archive}
use Rattle.ps_hall_flush.specs.declared.home.Home.{Home}
use Rattle.ps_hall.specs.declared.hall.HostPasses.{HostPasses}

module _ {B D : Type 0} {g : Ghosts D} where
  module _ (o : Origin) (t : OurTwin B D g) where
    each_back : (at : ℕ) (ps : List (HostPasses B D g)) → ((k : ℕ) (p : HostPasses B D g) → slice_get ps k ≡ Some p → AreOf o t (at + k) p)
        → (k : ℕ) (s : TwinSeat (Home B) (Archive B D g) Deed) → slice_get (seats_in ps) k ≡ Some s → IsSeatOf t s × IsFree s
    each_back at [] is k s h = cc
    each_back at (p ∷ ps) is zero s h =
        let a = (is 0 p refl).reader.pass.call in
        let e : p.reader.seat ≡ s = cc h in
        subst (λ x. IsSeatOf t x × IsFree x) e (a.twin, a.free)
    each_back at (p ∷ ps) is (suc zero) s h =
        let a = (is 0 p refl).writer.pass.call in
        let e : p.writer.seat ≡ s = cc h in
        subst (λ x. IsSeatOf t x × IsFree x) e (a.twin, a.free)
    each_back at (p ∷ ps) is (suc (suc k)) s h =
        each_back (at + 1) ps (λ j q there. subst (λ n. AreOf o t n q) (let e : at + suc j ≡ at + 1 + j = omega arith in e) (is (suc j) q there)) k s h

    all_back : (at : ℕ) (ps : List (HostPasses B D g)) → ((k : ℕ) (p : HostPasses B D g) → slice_get ps k ≡ Some p → AreOf o t (at + k) p)
        → (n : ℕ) → n < length ps + length ps → (k : ℕ) × (s : TwinSeat (Home B) (Archive B D g) Deed) × (slice_get (seats_in ps) k ≡ Some s) × (number_of s ≡ at + at + n)
    all_back at [] is n low = absurd (omega (arith, low))
    all_back at (p ∷ ps) is zero low =
        let a = is 0 p refl in
        let number = a.reader.number in
        let place = a.at_reader in
        (0, p.reader.seat, refl, omega (arith, number, place))
    all_back at (p ∷ ps) is (suc zero) low =
        let a = is 0 p refl in
        let number = a.writer.number in
        let place = a.at_writer in
        (1, p.writer.seat, refl, omega (arith, number, place))
    all_back at (p ∷ ps) is (suc (suc n)) low =
        let there = all_back (at + 1) ps (λ j q h. subst (λ m. AreOf o t m q) (let e : at + suc j ≡ at + 1 + j = omega arith in e) (is (suc j) q h)) n (omega (arith, low)) in
        let number = there.3 in
        (suc (suc there.0), there.1, there.2, omega (arith, number))

    pub are_all : (passes : List (HostPasses B D g)) → seats_of t ≡ length o.hosts + length o.hosts → ArePasses o t passes → AreAll t (seats_in passes)
    are_all passes two all =
        let from : (k : ℕ) (p : HostPasses B D g) → slice_get passes k ≡ Some p → AreOf o t (0 + k) p = λ k p e. subst (λ n. AreOf o t n p) (let z : k ≡ 0 + k = omega arith in z) (all.each k p e) in
        let size = all.size in
        record {
          each = each_back 0 passes from;
          all = λ n low. (let there = all_back 0 passes from n (omega (arith, low, two, size)) in let number = there.3 in (there.0, there.1, there.2, omega (arith, number)));
        }
