-- What was told of the entries that were seen.
use Rattle.std.specs.Prelude.{◌≡◌, List, length, Option}
use Rattle.ps_types.specs.declared.entry.Entry.{Entry}
use Rattle.ps_types.specs.declared.jid.Jid.{Jid}
use Rattle.ps_types.specs.declared.node.NodeKey.{NodeKey}
use Rattle.ps_audit_laws.specs.History.{history, verdicts_after}
use Rattle.ps_audit_laws.specs.declared.told.ExplainLine.{ExplainLine}
use Rattle.ps_audit_laws.specs.declared.told.Four.{Four}
use Rattle.ps_audit.specs.declared.explaining.Explaining.{Explaining}

-- the verdicts after the last of them, and the lines of all
pub record IsTold (E : List Entry) (who : Jid) (node : NodeKey) (newest : Option Four) (told : List ExplainLine) : Type 0 where
  pub newest_is : newest ≡ verdicts_after E who node (length E)
  pub listed : told ≡ history E who node

-- for the same address at the same node
pub record TellsOn (start now : Explaining) (E : List Entry) : Type 0 where
  pub who_is : now.who.now ≡ start.who.now
  pub node_is : now.node.now ≡ start.node.now
  pub told : IsTold E now.who.now now.node.now now.last now.lines.items
