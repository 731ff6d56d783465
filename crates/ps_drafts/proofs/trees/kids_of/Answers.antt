use Rattle.std.proofs.Common.{ap, sym, ◌∙◌, Option, List, ℕ}
use Rattle.ps_types.specs.Tree.{Tree, branch, none}
use Rattle.ps_drafts.specs.Parts.{behind}
use Rattle.ps_drafts.proofs.Kids.{two-kids}
use Rattle.ps_drafts.proofs.trees.kids_of.Goals as goal

pub returns-in-Some : goal.returns-in-Some
returns-in-Some c =
    two-kids c.in_ok-kids.kids c.push.new.self c.args.event.now c.in_ok-headers.field-0 (behind c.args.through.now)
    (c.in_ok-kids.ensures ∙ ap (λ (t : Tree). branch t none) c.in_ok-clone.ensures.cases) c.in_ok-push.ensures.ok
    (ap (λ (o : Option (List ℕ)). behind o) c.in-Some.is ∙ ap (λ (t : Tree). branch t none) (sym c.in_ok-headers.ensures))
