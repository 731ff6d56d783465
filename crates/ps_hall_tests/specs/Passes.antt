-- The passes of the first host, between two calls.
use Rattle.std.specs.Prelude.{◌≡◌, []}
use Rattle.ps_disk.specs.declared.device.Disk.{Ghosts}
use Rattle.ps_hall.specs.Calls.{HandAt, IsReader, IsWriter}
use Rattle.ps_hall_flush.specs.Origin.{Origin}
use Rattle.ps_hall.specs.Passes.{OurTwin}
use Rattle.ps_hall.specs.declared.hall.Pass.{Pass}

module _ {B D : Type 0} {g : Ghosts D} where
  -- its reader's
  pub record Reads (o : Origin) (t : OurTwin B D g) (p : Pass B D g) : Type 0 where
    pub reader : IsReader o t p.at p.host p.seat
    pub first : p.at ≡ 0

  -- its writer's
  pub record Writes (o : Origin) (t : OurTwin B D g) (p : Pass B D g) : Type 0 where
    pub writer : IsWriter o t p.at p.host p.seat
    pub first : p.at ≡ 0

  -- its writer's, with nothing in hand
  pub record IsFree (o : Origin) (t : OurTwin B D g) (p : Pass B D g) : Type 0 where
    pub writes : Writes o t p
    pub none : p.in_hand.items ≡ []
    pub hand : HandAt o p.in_hand.items p.host p.seat
