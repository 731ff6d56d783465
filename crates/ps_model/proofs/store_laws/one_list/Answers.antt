use Rattle.ps_model.proofs.OneList as lists
use Rattle.ps_model.proofs.store_laws.one_list.Goals as goal

pub returns : goal.returns
returns c = lists.one_list
