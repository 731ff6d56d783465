use Rattle.ps_io.proofs.Shelves.{at_place_is_some, at_none}
use Rattle.ps_io.proofs.shelf.Shelf.has.Goals as goal

pub returns-in-Some : goal.returns-in-Some
returns-in-Some g c = at_place_is_some c.args.self.now.slots.items c.args.name.now _ c.in-Some.ensures

pub returns-in-None : goal.returns-in-None
returns-in-None g c = at_none c.args.self.now.slots.items c.args.name.now c.in-None.ensures
