-- The four verdicts for an address at a node, and their texts.
use Rattle.std.specs.Prelude.{ℕ, Bool, true, false, List, ◌++◌, Option, Some, None, codes, decimal}
use Rattle.ps_types.specs.declared.denial.Rule.{Rule}
use Rattle.ps_types.specs.declared.denial.Rule.TheVariants.{ByAffiliation, ByOpen, ByPresence, ByGroup, BySubscription, ByPublishModel}
use Rattle.ps_types.specs.declared.denial.Verdict.{Verdict}
use Rattle.ps_types.specs.declared.denial.Verdict.TheVariants.{Granted, Pending, Denied}
use Rattle.ps_types.specs.declared.jid.Jid.{Jid}
use Rattle.ps_types.specs.declared.node.NodeKey.{NodeKey}
use Rattle.ps_types.specs.Nodes.{stands}
use Rattle.ps_model.specs.Access.{read, subscribe, publish, own}
use Rattle.ps_model.specs.Book.{Book}
use Rattle.ps_names.specs.Numbering.{number_of}
use Rattle.ps_audit_laws.specs.declared.told.Four.{Four}

abbrev pub rule_text : Rule → List ℕ
rule_text ByAffiliation = codes "affiliation"
rule_text ByOpen = codes "open"
rule_text ByPresence = codes "presence"
rule_text ByGroup = codes "group"
rule_text BySubscription = codes "subscription"
rule_text ByPublishModel = codes "publish-model"

abbrev pub verdict_text : Verdict → List ℕ
verdict_text (Granted rule) = codes "granted " ++ rule_text rule
verdict_text Pending = codes "pending"
verdict_text (Denied why) = codes "denied " ++ decimal (number_of why)

abbrev pub four_text : Option Four → List ℕ
four_text None = codes "no node"
four_text (Some four) =
    codes "read " ++ (verdict_text four.read ++ (codes ", subscribe " ++ (verdict_text four.subscribe ++ (codes ", publish " ++ (verdict_text four.publish
    ++ (codes ", own " ++ verdict_text four.own))))))

abbrev pub four_if : Bool → Book → NodeKey → Jid → Option Four
four_if false book node who = None
four_if true book node who = Some (record { read = read book node who; subscribe = subscribe book node who; publish = publish book node who; own = own book node who })

-- the verdicts for an address at a node that stands
abbrev pub four_at : Book → NodeKey → Jid → Option Four
four_at book node who = four_if (stands node book.nodes) book node who
