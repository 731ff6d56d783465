use Rattle.ps_hall_store.proofs.Storing.{opened_ok}
use Rattle.ps_hall_store.proofs.store.Store.new.Goals as goal

pub returns-clause-stands : goal.returns-clause-stands
returns-clause-stands g c = λ at w is count began. opened_ok g.met.D.Disk.only_now c.args.journal c.args.count c.length-length.result at w is count began c.length-length.ensures.value
    c.length-length.ensures.floor
