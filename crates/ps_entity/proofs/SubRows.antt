-- When two subscriptions are the same.
use Rattle.std.proofs.Common.{◌≡◌, ◌≢◌, Bool, true, false, not, ◌&&◌, List, Some, None, refl, sym, ap, ◌∙◌}
use Rattle.std.specs.Prelude.{is_some}
use Rattle.ps_base.specs.Rows.{put_row}
use Rattle.ps_types.specs.declared.rows.SubRow.{SubRow}
use Rattle.ps_types.specs.declared.rows.SubState.{SubState}
use Rattle.ps_types.specs.declared.rows.SubState.TheVariants as sub
use Rattle.ps_types.specs.declared.config.SubOptions.{SubOptions}
use Rattle.ps_types.specs.contracts.rows.SubRowPartialEq.TheImpl as row
use Rattle.ps_types.specs.contracts.rows.SubStatePartialEq.TheImpl as state
use Rattle.ps_types.specs.contracts.config.SubOptionsPartialEq.TheImpl as options
use Rattle.ps_types.specs.Same.{same_node, same_jid}
use Rattle.ps_types.specs.declared.jid.Jid.{Jid}
use Rattle.ps_types.specs.declared.node.NodeKey.{NodeKey}
use Rattle.ps_types.specs.Subs.{is_sub_of, sub_row, subs_with}
use Rattle.ps_types.proofs.Same.{same_node-itself, same_jid-Decides}
use Rattle.ps_model.specs.SameRows.{same_subs}
use Rattle.ps_entity.specs.Kept.{has_them}
use Rattle.ps_entity.proofs.Rows.{put-changes, put-adds, removal-changes, find-passes}

-- by their parts
same_sub-parts : (a b : SubRow) → row.eq-value.it a b ≡ (same_node a.node b.node && (same_jid a.who b.who && (state.eq-value.it a.state b.state && options.eq-value.it a.options b.options)))
unfolding same_node same_jid
same_sub-parts a b = refl

all_true : (a b c d : Bool) → a ≡ true → b ≡ true → c ≡ true → d ≡ true → (a && (b && (c && d))) ≡ true
all_true a b c d p q r s = rw (p, q, r, s) refl

state_itself : (s : SubState) → state.eq-value.it s s ≡ true
state_itself sub.Nothing = refl
state_itself sub.Pending = refl
state_itself sub.Subscribed = refl

options_itself : (items deep : Bool) → options.eq-value.it (record { items = items; deep = deep }) (record { items = items; deep = deep }) ≡ true
options_itself true true = refl
options_itself true false = refl
options_itself false true = refl
options_itself false false = refl

same_sub-itself : (a : SubRow) → row.eq-value.it a a ≡ true
same_sub-itself a =
    same_sub-parts a a ∙ all_true (same_node a.node a.node) (same_jid a.who a.who) (state.eq-value.it a.state a.state) (options.eq-value.it a.options a.options)
    (same_node-itself a.node) ((same_jid-Decides a.who a.who).1 refl) (state_itself a.state) (options_itself a.options.items a.options.deep)

-- ---- set

abbrev new_row : NodeKey → Jid → SubState → SubOptions → SubRow
new_row node who s o = record { node = node; who = who; state = s; options = o }

both_true : (a b c : Bool) → (a && b) ≡ true → (a && (b && c)) ≡ c
both_true true true c h = refl
both_true true false c h = absurd (cc)
both_true false b c h = absurd (cc)

-- the row that is there already has the same node and address
found_same : (node : NodeKey) (who : Jid) (s : SubState) (o : SubOptions) (rows : List SubRow) (old : SubRow) → sub_row node who rows ≡ Some old
    → row.eq-value.it (new_row node who s o) old ≡ has_them s o old
found_same node who s o rows old h =
    same_sub-parts (new_row node who s o) old ∙ both_true (same_node node old.node) (same_jid who old.who) (has_them s o old) (find-passes (is_sub_of node who) rows old h)

-- ---- what setting a row changes

pub sub-removed : (node : NodeKey) (who : Jid) (s : SubState) (o : SubOptions) (rows : List SubRow) → s ≡ sub.Nothing
    → is_some (sub_row node who rows) ≡ not (same_subs (subs_with (new_row node who s o) rows) rows)
sub-removed node who sub.Nothing o rows e = removal-changes row.eq-value.it same_sub-itself (is_sub_of node who) rows
sub-removed node who sub.Pending o rows e = absurd (cc)
sub-removed node who sub.Subscribed o rows e = absurd (cc)

-- a state that is set puts the row
put : (node : NodeKey) (who : Jid) (s : SubState) (o : SubOptions) (rows : List SubRow) → s ≢ sub.Nothing
    → put_row (is_sub_of node who) (new_row node who s o) rows ≡ subs_with (new_row node who s o) rows
put node who sub.Nothing o rows some = absurd (some refl)
put node who sub.Pending o rows some = refl
put node who sub.Subscribed o rows some = refl

pub sub-found : (node : NodeKey) (who : Jid) (s : SubState) (o : SubOptions) (rows : List SubRow) (old : SubRow) → s ≢ sub.Nothing → Some old ≡ sub_row node who rows
    → not (has_them s o old) ≡ not (same_subs (subs_with (new_row node who s o) rows) rows)
sub-found node who s o rows old some h =
    ap not (sym (found_same node who s o rows old (sym h))) ∙ put-changes row.eq-value.it same_sub-itself (is_sub_of node who) (new_row node who s o) old rows h
    ∙ ap (λ (after : List SubRow). not (same_subs after rows)) (put node who s o rows some)

pub sub-absent : (node : NodeKey) (who : Jid) (s : SubState) (o : SubOptions) (rows : List SubRow) → s ≢ sub.Nothing → None ≡ sub_row node who rows
    → true ≡ not (same_subs (subs_with (new_row node who s o) rows) rows)
sub-absent node who s o rows some h =
    put-adds row.eq-value.it same_sub-itself (is_sub_of node who) (new_row node who s o) rows h ∙ ap (λ (after : List SubRow). not (same_subs after rows)) (put node who s o rows some)
