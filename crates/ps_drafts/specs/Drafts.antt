-- What a draft is seen as.
use Rattle.std.specs.Arc.{arc_value}
use Rattle.ps_types.specs.Tree.{Tree}
use Rattle.ps_drafts.specs.declared.draft.Parts.{Parts}
use Rattle.ps_drafts.specs.declared.draft.Parts.TheVariants as parts
use Rattle.ps_drafts.specs.Parts.{message_of}

abbrev pub draft_tree : Parts → Tree
draft_tree (parts.Tree t) = t
draft_tree (parts.Message form to through) = message_of (arc_value form) to through
