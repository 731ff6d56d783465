use Rattle.std.proofs.Common.{◌-◌, length, take, drop}
use Rattle.std.proofs.lemmas.Result.{IfOk-weaker}
use Rattle.ps_args.proofs.Well.{served-well}
use Rattle.ps_args.proofs.words.read_words.Goals as goal

pub returns-in-len5-up-clause-well : goal.returns-in-len5-up-clause-well
returns-in-len5-up-clause-well c =
    IfOk-weaker c.read_serve.result _ _ (λ x e. served-well c.service-item.result c.store-item.result (take (length c.args.words.now - 5) (drop 5 c.args.words.now)) x e) c.read_serve.ensures.ok
