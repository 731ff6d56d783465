use Rattle.ps_commands.specs.Words.{command_of}
use Rattle.ps_status.specs.Outside.{outside}
use Rattle.ps_serve.specs.Compacting.{compacted_by}
use Rattle.ps_serve.specs.Runs.{served_by}
use Rattle.ps_serve.proofs.Nothing.{compacted-nothing, did-nothing, left-all, served-nothing}
use Rattle.ps_serve.proofs.whole.run_words.Goals as goal

pub returns-in-Err-Memory-clause-runs : goal.returns-in-Err-Memory-clause-runs
returns-in-Err-Memory-clause-runs g c =
    let w = g.W.World in
    let old = c.args.world.now in
    served-nothing g.W.Store.Disk.tells (served_by (command_of c.args.words.now)) (outside w old) (w.lefts old)

pub returns-in-Err-Memory-clause-compacts : goal.returns-in-Err-Memory-clause-compacts
returns-in-Err-Memory-clause-compacts g c =
    let w = g.W.World in
    let old = c.args.world.now in
    compacted-nothing g.W.Store.Disk.tells (compacted_by (command_of c.args.words.now)) (outside w old) (w.lefts old)

pub returns-in-Err-Memory-clause-came : goal.returns-in-Err-Memory-clause-came
returns-in-Err-Memory-clause-came g c =
    let w = g.W.World in
    let old = c.args.world.now in
    did-nothing g.W.Store.Disk.tells (command_of c.args.words.now) (outside w old) (w.lefts old)

pub returns-in-Err-Memory-clause-others : goal.returns-in-Err-Memory-clause-others
returns-in-Err-Memory-clause-others g c =
    let w = g.W.World in
    let old = c.args.world.now in
    left-all (command_of c.args.words.now) (outside w old) (w.lefts old)
