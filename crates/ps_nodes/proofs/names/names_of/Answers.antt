use Rattle.std.proofs.Common.{ap, ◌∙◌}
use Rattle.ps_rows.specs.Standing.{marks_of}
use Rattle.ps_nodes.specs.Kept.{name_digest}
use Rattle.ps_nodes.proofs.Filled.{marks-full}
use Rattle.ps_nodes.proofs.names.names_of.Goals as goal

pub returns : goal.returns
returns c = record {
  names = c.mark.ensures.marks ∙ (ap (λ s. marks_of (name_digest s) c.places.result.now) c.seed.ensures ∙ (ap (marks_of (name_digest c.args.slots.now.seed)) c.places.ensures
      ∙ marks-full (name_digest c.args.slots.now.seed) c.args.slots.now.rows c.requires.full));
}
