-- The passes of all hosts.
use Rattle.std.specs.Prelude.{◌≡◌, ℕ, List, [], ◌∷◌, length, Some, slice_get}
use Rattle.ps_disk.specs.declared.device.Disk.{Ghosts}
use Rattle.ps_twin.specs.declared.twin.TwinSeat.{TwinSeat}
use Rattle.ps_twin.specs.declared.twin.Twin.{Twin}
use Rattle.ps_twin.specs.Seats.{seen_of}
use Rattle.ps_trace.specs.declared.deed.Deed.{Deed}
use Rattle.ps_trace.specs.Did.{HasInHand}
use Rattle.ps_hall.specs.Calls.{IsReader, IsWriter}
use Rattle.ps_hall_flush.specs.Homes.{world_at}
use Rattle.ps_hall_flush.specs.Origin.{Origin}
use Rattle.ps_hall_flush.specs.declared.home.Archive.{Archive}
use Rattle.ps_hall_flush.specs.declared.home.Home.{Home}
use Rattle.ps_hall.specs.declared.hall.HostPasses.{HostPasses}
use Rattle.ps_hall.specs.declared.hall.Pass.{Pass}
use Rattle.ps_hall.specs.declared.opening.Names.{Names}

-- the name of a host, for each of its callers
abbrev pub named : List ℕ → Names
named host = record { reader = host; writer = host }

abbrev pub OurTwin : (B D : Type 0) → Ghosts D → Type 0
OurTwin B D g = Twin (Home B) (Archive B D g) Deed

module _ {B D : Type 0} {g : Ghosts D} where
  -- ---- while the hall lives

  -- these two are of the host at this place
  pub record AreOf (o : Origin) (t : OurTwin B D g) (at : ℕ) (p : HostPasses B D g) : Type 0 where
    pub reader : IsReader o t p.reader.at p.reader.host p.reader.seat
    pub writer : IsWriter o t p.writer.at p.writer.host p.writer.seat
    pub at_reader : p.reader.at ≡ at
    pub at_writer : p.writer.at ≡ at

  -- these are of all hosts, in order
  pub record ArePasses (o : Origin) (t : OurTwin B D g) (passes : List (HostPasses B D g)) : Type 0 where
    pub size : length passes ≡ length o.hosts
    pub each : (k : ℕ) (p : HostPasses B D g) → slice_get passes k ≡ Some p → AreOf o t k p

  -- ---- at the opening

  -- it has seen nothing, and has no notice in hand
  pub record IsFresh (o : Origin) (p : Pass B D g) : Type 0 where
    pub seen : seen_of p.seat ≡ []
    pub hand : p.in_hand.items ≡ []
    pub none : HasInHand p.host p.in_hand.items (world_at o (seen_of p.seat))

  pub record AreFresh (o : Origin) (t : OurTwin B D g) (passes : List (HostPasses B D g)) : Type 0 where
    pub all : ArePasses o t passes
    pub each : (k : ℕ) (p : HostPasses B D g) → slice_get passes k ≡ Some p → IsFresh o p.reader × IsFresh o p.writer

  -- a pass with a hand that is empty
  pub record IsPassOf (at : ℕ) (host : List ℕ) (s : TwinSeat (Home B) (Archive B D g) Deed) (p : Pass B D g) : Type 0 where
    pub seat : p.seat ≡ s
    pub at_is : p.at ≡ at
    pub host_is : p.host ≡ host
    pub hand : p.in_hand.items ≡ []

  pub record ArePassesOf (at : ℕ) (n : Names) (r w : TwinSeat (Home B) (Archive B D g) Deed) (p : HostPasses B D g) : Type 0 where
    pub reader : IsPassOf at n.reader r p.reader
    pub writer : IsPassOf at n.writer w p.writer

  -- ---- at the end

  -- the seats of the passes: of each host its reader's and then its writer's
  abbrev pub seats_in : List (HostPasses B D g) → List (TwinSeat (Home B) (Archive B D g) Deed)
  seats_in [] = []
  seats_in (p ∷ ps) = p.reader.seat ∷ p.writer.seat ∷ seats_in ps
