use Rattle.ps_serve.specs.Starts.{start_of}
use Rattle.ps_serve.proofs.serving.serve_over.Given as goal

abbrev pub ghost-serve_store : goal.ghost-serve_store
ghost-serve_store g a = start_of g.W.Store.Disk a.disk
