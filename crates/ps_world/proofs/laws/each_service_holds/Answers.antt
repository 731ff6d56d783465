use Rattle.ps_world.proofs.Read.{crash-ok, holds-ok, stays-ok}
use Rattle.ps_world.proofs.laws.each_service_holds.Goals as goal

pub returns : goal.returns
returns c = record {
  runs = λ core laws E service steps ok some. holds-ok core laws service some E steps ok;
  stays = λ core laws E service steps more ok some. stays-ok core laws service some E steps more ok;
  crashes = λ core laws E service steps m ok some low high. crash-ok core laws service some E steps m ok low high;
}
