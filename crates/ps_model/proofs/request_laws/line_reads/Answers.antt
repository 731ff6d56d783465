use Rattle.ps_model.proofs.LineLaws.{reads-line, no-json, no-tree, too-deep}
use Rattle.ps_model.proofs.request_laws.line_reads.Goals as goal

pub returns-clause-tree : goal.returns-clause-tree
returns-clause-tree c = reads-line

pub returns-clause-not_json : goal.returns-clause-not_json
returns-clause-not_json c = no-json

pub returns-clause-not_a_tree : goal.returns-clause-not_a_tree
returns-clause-not_a_tree c = no-tree

pub returns-clause-too_deep : goal.returns-clause-too_deep
returns-clause-too_deep c = too-deep
