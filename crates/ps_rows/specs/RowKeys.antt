-- The digests of the rows of each table, and which of its rows are kin: of one node, one collection, or one bare address.
use Rattle.std.specs.Prelude.{◌≡◌, ℕ, Bool, bytes_eq, Decides}
use Rattle.std.proofs.Common.{sym, refl, ◌∙◌}
use Rattle.std.proofs.lemmas.Slice.Eq.{bytes_eq-Decides}
use Rattle.std.proofs.lemmas.Bool.Decides.{Decides-and}
use Rattle.ps_types.proofs.Same.{same_node-Decides}
use Rattle.ps_types.specs.Same.{same_node, same_bare}
use Rattle.ps_types.specs.declared.jid.Jid.{Jid}
use Rattle.ps_types.specs.declared.rows.AffilRow.{AffilRow}
use Rattle.ps_types.specs.declared.rows.CountRow.{CountRow}
use Rattle.ps_types.specs.declared.rows.ItemRow.{ItemRow}
use Rattle.ps_types.specs.declared.rows.LinkRow.{LinkRow}
use Rattle.ps_types.specs.declared.rows.NodeRow.{NodeRow}
use Rattle.ps_types.specs.declared.rows.ResourceRow.{ResourceRow}
use Rattle.ps_types.specs.declared.rows.RosterRow.{RosterRow}
use Rattle.ps_types.specs.declared.rows.SubRow.{SubRow}
use Rattle.ps_types.specs.declared.rows.VerRow.{VerRow}
use Rattle.ps_rows.specs.declared.index.Index.{Index}
use Rattle.ps_rows.specs.declared.index.Index.TheVariants.{Key, Node, Bare}
use Rattle.ps_rows.specs.Digests.{node_digest, item_digest, bare_at_digest, jid_at_digest, bare_digest, jid_digest, pair_digest, text_digest}
use Rattle.ps_rows.specs.Kin.{IsKin}

-- rows of one key are kin, where a test decides whether keys are one
decided : {R K : Type 0} (f : R → K) (test : K → K → Bool) → ((a b : K) → Decides (test a b) (a ≡ b)) → IsKin (λ x y. test (f x) (f y))
decided f test d = record {
  itself = λ x. (d (f x) (f x)).1 refl;
  back = λ x y h. (d (f y) (f x)).1 (sym ((d (f x) (f y)).0 h));
  on = λ x y z h k. (d (f x) (f z)).1 ((d (f x) (f y)).0 h ∙ (d (f y) (f z)).0 k);
}

same_parts : (a b : Jid) → Decides (same_bare a b) ((a.local ≡ b.local) × (a.host ≡ b.host))
unfolding same_bare
same_parts a b = Decides-and (bytes_eq a.local b.local) (bytes_eq a.host b.host) (bytes_eq-Decides a.local b.local) (bytes_eq-Decides a.host b.host)

-- so are rows of one bare address
bare_kin : {R : Type 0} (f : R → Jid) → IsKin (λ x y. same_bare (f x) (f y))
bare_kin f = record {
  itself = λ x. (same_parts (f x) (f x)).1 (refl, refl);
  back = λ x y h. (let p = (same_parts (f x) (f y)).0 h in (same_parts (f y) (f x)).1 (sym p.0, sym p.1));
  on = λ x y z h k. (let p = (same_parts (f x) (f y)).0 h in let q = (same_parts (f y) (f z)).0 k in (same_parts (f x) (f z)).1 (p.0 ∙ q.0, p.1 ∙ q.1));
}

-- an item by its node and id; none is looked for by an address
abbrev pub item_by : ℕ → Index → ItemRow → ℕ
item_by seed Key row = item_digest seed row.node row.id
item_by seed Node row = node_digest seed row.node
item_by seed Bare row = 0

abbrev pub item_kin : ItemRow → ItemRow → Bool
item_kin x y = same_node x.node y.node

pub item_kin_is : IsKin item_kin
item_kin_is = decided (λ x. x.node) same_node same_node-Decides

-- an affiliation by its node and bare address
abbrev pub affil_by : ℕ → Index → AffilRow → ℕ
affil_by seed Key row = bare_at_digest seed row.node row.who
affil_by seed Node row = node_digest seed row.node
affil_by seed Bare row = bare_digest seed row.who

abbrev pub affil_kin : AffilRow → AffilRow → Bool
affil_kin x y = same_node x.node y.node

pub affil_kin_is : IsKin affil_kin
affil_kin_is = decided (λ x. x.node) same_node same_node-Decides

-- a subscription by its node and address
abbrev pub sub_by : ℕ → Index → SubRow → ℕ
sub_by seed Key row = jid_at_digest seed row.node row.who
sub_by seed Node row = node_digest seed row.node
sub_by seed Bare row = bare_digest seed row.who

abbrev pub sub_kin : SubRow → SubRow → Bool
sub_kin x y = same_node x.node y.node

pub sub_kin_is : IsKin sub_kin
sub_kin_is = decided (λ x. x.node) same_node same_node-Decides

-- a count by its node and bare address
abbrev pub count_by : ℕ → Index → CountRow → ℕ
count_by seed Key row = bare_at_digest seed row.node row.who
count_by seed Node row = node_digest seed row.node
count_by seed Bare row = 0

abbrev pub count_kin : CountRow → CountRow → Bool
count_kin x y = same_node x.node y.node

pub count_kin_is : IsKin count_kin
count_kin_is = decided (λ x. x.node) same_node same_node-Decides

-- a link by its child, and by its collection
abbrev pub link_by : ℕ → Index → LinkRow → ℕ
link_by seed Key row = node_digest seed row.child
link_by seed Node row = node_digest seed row.collection
link_by seed Bare row = 0

abbrev pub link_kin : LinkRow → LinkRow → Bool
link_kin x y = same_node x.collection y.collection

pub link_kin_is : IsKin link_kin
link_kin_is = decided (λ x. x.collection) same_node same_node-Decides

-- a node by its key, by the bare address that made it, and by the service host or account that it belongs to
abbrev pub node_by : ℕ → Index → NodeRow → ℕ
node_by seed Key row = node_digest seed row.key
node_by seed Node row = bare_digest seed row.creator
node_by seed Bare row = bare_digest seed row.key.service

-- the nodes that one bare address made are kin
abbrev pub node_kin : NodeRow → NodeRow → Bool
node_kin x y = same_bare x.creator y.creator

pub node_kin_is : IsKin node_kin
node_kin_is = bare_kin (λ x. x.creator)

-- a contact by its account and address, and by its account
abbrev pub roster_by : ℕ → Index → RosterRow → ℕ
roster_by seed Key row = pair_digest seed row.account row.contact
roster_by seed Node row = bare_digest seed row.account
roster_by seed Bare row = 0

abbrev pub roster_kin : RosterRow → RosterRow → Bool
roster_kin x y = same_bare x.account y.account

pub roster_kin_is : IsKin roster_kin
roster_kin_is = bare_kin (λ x. x.account)

-- a resource by its address, by its bare address, and by its host
abbrev pub resource_by : ℕ → Index → ResourceRow → ℕ
resource_by seed Key row = jid_digest seed row.who
resource_by seed Node row = bare_digest seed row.who
resource_by seed Bare row = text_digest seed row.who.host

abbrev pub resource_kin : ResourceRow → ResourceRow → Bool
resource_kin x y = same_bare x.who y.who

pub resource_kin_is : IsKin resource_kin
resource_kin_is = bare_kin (λ x. x.who)

-- a capability string by itself
abbrev pub ver_by : ℕ → Index → VerRow → ℕ
ver_by seed Key row = text_digest seed row.ver
ver_by seed Node row = text_digest seed row.ver
ver_by seed Bare row = 0

abbrev pub ver_kin : VerRow → VerRow → Bool
ver_kin x y = bytes_eq x.ver y.ver

pub ver_kin_is : IsKin ver_kin
ver_kin_is = decided (λ x. x.ver) bytes_eq bytes_eq-Decides
