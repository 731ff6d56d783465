use Rattle.std.proofs.Common.{ap, ◌∙◌}
use Rattle.ps_types.specs.Tree.{name_of}
use Rattle.ps_compact_codec.proofs.Names.{no-name}
use Rattle.ps_compact_codec.proofs.read.read_named.Goals as goal

pub returns-in_default : goal.returns-in_default
returns-in_default c =
    let not = c.in_default in
    no-name c.args.tree.now c.as_str.result.now (c.as_str.ensures.value ∙ ap name_of c.tree.view_is)
    not.not-node not.not-affiliation not.not-subscription not.not-item not.not-link not.not-contact not.not-ver not.not-made not.not-counter not.not-notice
