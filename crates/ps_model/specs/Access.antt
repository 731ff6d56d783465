-- Who may do what: the affiliation first, then the node's model (XEP-0060 §4.1, §4.5).
use Rattle.std.specs.Prelude.{Bool, true, false, ◌&&◌, not, ◌==◌, length, Option, Some, None, cond}
use Rattle.ps_types.specs.declared.jid.Jid.{Jid}
use Rattle.ps_types.specs.declared.node.NodeKey.{NodeKey}
use Rattle.ps_types.specs.declared.rows.NodeRow.{NodeRow}
use Rattle.ps_types.specs.declared.rows.Affil.{Affil}
use Rattle.ps_types.specs.declared.rows.Affil.TheVariants.{Owner, Publisher, PublishOnly, Member, Outcast, Nothing}
use Rattle.ps_types.specs.declared.rows.SubState.{SubState}
use Rattle.ps_types.specs.declared.config.Access.{Access}
use Rattle.ps_types.specs.declared.config.Access.TheVariants.{Everyone, Presence, Roster, Authorize, Whitelist}
use Rattle.ps_types.specs.declared.config.PublishModel.{PublishModel}
use Rattle.ps_types.specs.declared.config.PublishModel.TheVariants.{Publishers, Subscribers, Anyone}
use Rattle.ps_types.specs.declared.denial.Condition.{Condition}
use Rattle.ps_types.specs.declared.denial.Condition.TheVariants.{C11, C12, C17, C18, C19, C20}
use Rattle.ps_types.specs.declared.denial.Rule.{Rule}
use Rattle.ps_types.specs.declared.denial.Rule.TheVariants.{ByAffiliation, ByOpen, ByPresence, ByGroup, BySubscription, ByPublishModel}
use Rattle.ps_types.specs.declared.denial.Verdict.{Verdict}
use Rattle.ps_types.specs.declared.denial.Verdict.TheVariants.{Granted, Pending, Denied}
use Rattle.ps_types.specs.Same.{same_bare}
use Rattle.ps_types.specs.Affils.{affil_at}
use Rattle.ps_types.specs.Nodes.{node_at}
use Rattle.ps_types.specs.Rosters.{is_presence_contact, is_group_contact}
use Rattle.ps_types.specs.Subs.{sub_at, subscribed_in}
use Rattle.ps_model.specs.Book.{Book}

-- an account: a bare address with a local part
abbrev pub is_account : Jid → Bool
is_account who = not (length who.local == 0) && (length who.resource == 0)

-- the node is personal: it belongs to the account of this bare address
abbrev pub is_own_account : Jid → Jid → Bool
is_own_account service who = is_account service && same_bare service who

abbrev pub affil_or : Bool → Affil → Affil
affil_or true affil = Owner
affil_or false affil = affil

-- what an address is at a node: the account of a personal node is its owner, any other is what the row of its bare address says
abbrev pub affiliation : Book → NodeKey → Jid → Affil
affiliation book node who = affil_or (is_own_account node.service who) (affil_at node who book.affils)

-- how far the subscription of exactly the address has come
abbrev pub subscription : Book → NodeKey → Jid → SubState
subscription book node who = sub_at node who book.subs

-- some address of the bare address is subscribed
abbrev pub subscribed : Book → NodeKey → Jid → Bool
subscribed book node who = subscribed_in node who book.subs

-- the account of a node: that of a personal node, and the creator of another
abbrev pub account_of : NodeRow → Jid
account_of row = cond (is_account row.key.service) row.key.service row.creator

abbrev pub granted_if : Bool → Rule → Condition → Verdict
granted_if true rule why = Granted rule
granted_if false rule why = Denied why

-- what the access model says of an address without an affiliation
abbrev pub read_by_model : Access → Book → NodeRow → Jid → Verdict
read_by_model Everyone book row who = Granted ByOpen
read_by_model Presence book row who = granted_if (is_presence_contact (account_of row) who book.rosters) ByPresence C18
read_by_model Roster book row who = granted_if (is_group_contact row.config.roster_groups_allowed (account_of row) who book.rosters) ByGroup C19
read_by_model Authorize book row who = granted_if (subscribed book row.key who) BySubscription C20
read_by_model Whitelist book row who = Denied C17

-- the verdict of the affiliation, or else the model's
abbrev pub read_by : Affil → Verdict → Verdict
read_by Owner verdict = Granted ByAffiliation
read_by Publisher verdict = Granted ByAffiliation
read_by Member verdict = Granted ByAffiliation
read_by PublishOnly verdict = Denied C11
read_by Outcast verdict = Denied C11
read_by Nothing verdict = verdict

abbrev pub read_at : Option NodeRow → Book → NodeKey → Jid → Verdict
read_at None book node who = Denied C12
read_at (Some row) book node who = read_by (affiliation book node who) (read_by_model row.config.access_model book row who)

-- whether an address may read a node
abbrev pub read : Book → NodeKey → Jid → Verdict
read book node who = read_at (node_at node book.nodes) book node who

-- to subscribe is to read, but that the owners of a node of the model authorize are asked first
abbrev pub subscribe_by_model : Access → Book → NodeRow → Jid → Verdict
subscribe_by_model Authorize book row who = Pending
subscribe_by_model model book row who = read_by_model model book row who

abbrev pub subscribe_at : Option NodeRow → Book → NodeKey → Jid → Verdict
subscribe_at None book node who = Denied C12
subscribe_at (Some row) book node who = read_by (affiliation book node who) (subscribe_by_model row.config.access_model book row who)

-- whether an address may subscribe to a node
abbrev pub subscribe : Book → NodeKey → Jid → Verdict
subscribe book node who = subscribe_at (node_at node book.nodes) book node who

-- what the publish model says of an address whose affiliation doesn't let it publish
abbrev pub publish_by_model : PublishModel → Bool → Verdict
publish_by_model Anyone is_subscribed = Granted ByPublishModel
publish_by_model Subscribers is_subscribed = granted_if is_subscribed ByPublishModel C11
publish_by_model Publishers is_subscribed = Denied C11

abbrev pub publish_by : Affil → Verdict → Verdict
publish_by Owner verdict = Granted ByAffiliation
publish_by Publisher verdict = Granted ByAffiliation
publish_by PublishOnly verdict = Granted ByAffiliation
publish_by Outcast verdict = Denied C11
publish_by Member verdict = verdict
publish_by Nothing verdict = verdict

abbrev pub publish_at : Option NodeRow → Book → NodeKey → Jid → Verdict
publish_at None book node who = Denied C12
publish_at (Some row) book node who = publish_by (affiliation book node who) (publish_by_model row.config.publish_model (subscribed book node who))

-- whether an address may publish at a node
abbrev pub publish : Book → NodeKey → Jid → Verdict
publish book node who = publish_at (node_at node book.nodes) book node who

abbrev pub own_by : Affil → Verdict
own_by Owner = Granted ByAffiliation
own_by _ = Denied C11

-- whether an address owns a node
abbrev pub own : Book → NodeKey → Jid → Verdict
own book node who = own_by (affiliation book node who)
