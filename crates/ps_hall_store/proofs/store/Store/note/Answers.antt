use Rattle.std.proofs.Common.{refl}
use Rattle.ps_hall_store.proofs.Storing.{noted_ok}
use Rattle.ps_hall_store.proofs.store.Store.note.Goals as goal

pub returns-clause-notes : goal.returns-clause-notes
returns-clause-notes g c = λ at v u is on sound broken told. noted_ok at c.args.self.now _ v u c.args.steps is on sound broken told refl refl refl refl refl
