-- The Books that a rehearsal comes to: nodes of the service with the defaults, made by accounts of their hosts, with subscriptions of accounts of the two hosts, and nothing else.
use Rattle.std.proofs.Common.{◌≡◌, ◌⊎◌, inl, inr, Bool, true, false, cond, List, [], ◌∷◌, Option, Some, None, refl, sym, ap, ◌∙◌}
use Rattle.std.specs.List.{AllByRecursion as Each}
use Rattle.ps_types.specs.Defaults.{service_config}
use Rattle.ps_types.specs.Nodes.{is_node, node_at}
use Rattle.ps_types.specs.Same.{same_node}
use Rattle.ps_types.specs.Subs.{is_pending, is_sub_of, state_in, sub_at, sub_row}
use Rattle.ps_types.specs.declared.config.NodeConfig.{NodeConfig}
use Rattle.ps_types.specs.declared.jid.Jid.{Jid}
use Rattle.ps_types.specs.declared.node.NodeKey.{NodeKey}
use Rattle.ps_types.specs.declared.rows.NodeRow.{NodeRow}
use Rattle.ps_types.specs.declared.rows.SubRow.{SubRow}
use Rattle.ps_types.specs.declared.rows.SubState.TheVariants as sub
use Rattle.ps_types.proofs.Same.{same_node-Decides}
use Rattle.ps_model.specs.Book.{Book}
use Rattle.ps_rehearse_laws.proofs.Deal.{IsGuest, is_kin, is_mine, service}
use Rattle.ps_rehearse_laws.proofs.Lists.{each-filter}
use Rattle.ps_rehearse_laws.proofs.Part.{part}

pub record NodeFits (row : NodeRow) : Type 0 where
  pub config : row.config ≡ service_config
  pub maker : (side : Bool) → is_kin side row.creator ≡ is_mine side row.key

pub record SubFits (row : SubRow) : Type 0 where
  pub guest : IsGuest row.who
  pub state : row.state ≡ sub.Subscribed

pub record Fits (b : Book) : Type 0 where
  pub service : b.service ≡ service
  pub links : b.links ≡ []
  pub resources : b.resources ≡ []
  pub nodes : Each NodeFits b.nodes
  pub subs : Each SubFits b.subs

pub part-fits : (mine : NodeKey → Bool) (b : Book) → Fits b → Fits (part mine b)
part-fits mine b fits = record {
  service = fits.service;
  links = fits.links;
  resources = fits.resources;
  nodes = each-filter NodeFits (λ row. mine row.key) b.nodes fits.nodes;
  subs = each-filter SubFits (λ row. mine row.node) b.subs fits.subs;
}

-- ---- what is found

abbrev pub plain : NodeKey → Jid → NodeRow
plain node creator = record { key = node; creator = creator; config = service_config }

-- no row, or one with the defaults
abbrev pub IsPlain : NodeKey → Option NodeRow → Type 0
IsPlain node o = (o ≡ None) ⊎ ((creator : Jid) × (o ≡ Some (plain node creator)))

row_with : NodeKey → Jid → NodeConfig → NodeRow
row_with node creator config = record { key = node; creator = creator; config = config }

pub found-plain : (node : NodeKey) (rows : List NodeRow) → Each NodeFits rows → IsPlain node (node_at node rows)
unfolding row_with
found-plain node [] fits = inl refl
found-plain node (x ∷ rows) fits = by (is_node node x) refl (found-plain node rows fits.1)
  where
    is : same_node node x.key ≡ true → x ≡ plain node x.creator
    is same = let e : row_with x.key x.creator x.config ≡ row_with node x.creator service_config =
        ap (λ (k : NodeKey). row_with k x.creator x.config) (sym ((same_node-Decides node x.key).0 same)) ∙ ap (row_with node x.creator) fits.0.config in e

    by : (b : Bool) → is_node node x ≡ b → IsPlain node (node_at node rows) → IsPlain node (cond b (Some x) (node_at node rows))
    by true same more = inr (x.creator, ap (λ (r : NodeRow). Some r) (is same))
    by false same more = more

pub never-pending : (node : NodeKey) (who : Jid) (rows : List SubRow) → Each SubFits rows → is_pending (sub_at node who rows) ≡ false
never-pending node who [] fits = refl
never-pending node who (x ∷ rows) fits = by (is_sub_of node who x) (never-pending node who rows fits.1)
  where
    by : (b : Bool) → is_pending (sub_at node who rows) ≡ false → is_pending (state_in (cond b (Some x) (sub_row node who rows))) ≡ false
    by true more = rw fits.0.state refl
    by false more = more
