use Rattle.std.proofs.Common.{◌≡◌, ℕ, List, [], ◌∷◌, refl, sym, ap, subst}
use Rattle.std.specs.Fmt.{decimal}
use Rattle.ps_types.specs.declared.config.NodeConfig.{NodeConfig}
use Rattle.ps_config.specs.declared.row.Setting.{Setting}
use Rattle.ps_config.specs.declared.row.Setting.TheVariants as row
use Rattle.ps_config.specs.Rows.{row_of}
use Rattle.ps_config.proofs.row.cell_of.Goals as goal

shown : (values : List (List ℕ)) (config : NodeConfig) (r s : Setting) → r ≡ s → values ≡ (row_of s).values config → values ≡ (row_of r).values config
shown values config r s e h = subst (λ (t : Setting). values ≡ (row_of t).values config) (sym e) h

pub returns-in-DeliverPayloads-clause-values : goal.returns-in-DeliverPayloads-clause-values
unfolding row_of
returns-in-DeliverPayloads-clause-values c = shown _ c.args.config.now _ row.DeliverPayloads c.in-DeliverPayloads.is refl

pub returns-in-NotifyConfig-clause-values : goal.returns-in-NotifyConfig-clause-values
unfolding row_of
returns-in-NotifyConfig-clause-values c = shown _ c.args.config.now _ row.NotifyConfig c.in-NotifyConfig.is refl

pub returns-in-NotifyDelete-clause-values : goal.returns-in-NotifyDelete-clause-values
unfolding row_of
returns-in-NotifyDelete-clause-values c = shown _ c.args.config.now _ row.NotifyDelete c.in-NotifyDelete.is refl

pub returns-in-NotifyRetract-clause-values : goal.returns-in-NotifyRetract-clause-values
unfolding row_of
returns-in-NotifyRetract-clause-values c = shown _ c.args.config.now _ row.NotifyRetract c.in-NotifyRetract.is refl

pub returns-in-PersistItems-clause-values : goal.returns-in-PersistItems-clause-values
unfolding row_of
returns-in-PersistItems-clause-values c = shown _ c.args.config.now _ row.PersistItems c.in-PersistItems.is refl

pub returns-in-MaxItems-clause-values : goal.returns-in-MaxItems-clause-values
unfolding row_of
returns-in-MaxItems-clause-values c = shown _ c.args.config.now _ row.MaxItems c.in-MaxItems.is (ap (λ (n : ℕ). decimal n ∷ []) c.get.ensures.items)

pub returns-in-AccessModel-clause-values : goal.returns-in-AccessModel-clause-values
unfolding row_of
returns-in-AccessModel-clause-values c = shown _ c.args.config.now _ row.AccessModel c.in-AccessModel.is (ap (λ (w : List ℕ). w ∷ []) c.access_text.ensures)

pub returns-in-PublishModel-clause-values : goal.returns-in-PublishModel-clause-values
unfolding row_of
returns-in-PublishModel-clause-values c = shown _ c.args.config.now _ row.PublishModel c.in-PublishModel.is (ap (λ (w : List ℕ). w ∷ []) c.model_text.ensures)

pub returns-in-RosterGroupsAllowed-clause-values : goal.returns-in-RosterGroupsAllowed-clause-values
unfolding row_of
returns-in-RosterGroupsAllowed-clause-values c = shown _ c.args.config.now _ row.RosterGroupsAllowed c.in-RosterGroupsAllowed.is refl

pub returns-in-SendLastPublishedItem-clause-values : goal.returns-in-SendLastPublishedItem-clause-values
unfolding row_of
returns-in-SendLastPublishedItem-clause-values c = shown _ c.args.config.now _ row.SendLastPublishedItem c.in-SendLastPublishedItem.is (ap (λ (w : List ℕ). w ∷ []) c.send_text.ensures)

pub returns-in-PresenceBasedDelivery-clause-values : goal.returns-in-PresenceBasedDelivery-clause-values
unfolding row_of
returns-in-PresenceBasedDelivery-clause-values c = shown _ c.args.config.now _ row.PresenceBasedDelivery c.in-PresenceBasedDelivery.is refl

pub returns-in-NotificationType-clause-values : goal.returns-in-NotificationType-clause-values
unfolding row_of
returns-in-NotificationType-clause-values c = shown _ c.args.config.now _ row.NotificationType c.in-NotificationType.is (ap (λ (w : List ℕ). w ∷ []) c.notice_text.ensures)

pub returns-in-MaxPayloadSize-clause-values : goal.returns-in-MaxPayloadSize-clause-values
unfolding row_of
returns-in-MaxPayloadSize-clause-values c = shown _ c.args.config.now _ row.MaxPayloadSize c.in-MaxPayloadSize.is refl

pub returns-in-NodeType-clause-values : goal.returns-in-NodeType-clause-values
unfolding row_of
returns-in-NodeType-clause-values c = shown _ c.args.config.now _ row.NodeType c.in-NodeType.is (ap (λ (w : List ℕ). w ∷ []) c.kind_text.ensures)

pub returns-in-Collection-clause-values : goal.returns-in-Collection-clause-values
unfolding row_of
returns-in-Collection-clause-values c = shown _ c.args.config.now _ row.Collection c.in-Collection.is refl
