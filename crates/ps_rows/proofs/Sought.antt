-- What is the same has one digest.
use Rattle.std.proofs.Common.{◌≡◌, ℕ, Bool, true, false, ◌&&◌, List, refl, ap, sym, ◌∙◌}
use Rattle.std.specs.Prelude.{bytes_eq}
use Rattle.std.specs.declared.hash.DefaultHasher.{DefaultHasher}
use Rattle.std.proofs.lemmas.Slice.Eq.{bytes_eq-Decides}
use Rattle.ps_types.specs.declared.jid.Jid.{Jid}
use Rattle.ps_types.specs.declared.node.NodeKey.{NodeKey}
use Rattle.ps_types.specs.Same.{same_bare, same_jid, same_node}
use Rattle.ps_types.proofs.Same.{same_jid-Decides, same_node-Decides}
use Rattle.ps_chains.specs.Seeding.{begun}
use Rattle.ps_rows.specs.Digests.{with_text, with_bare, with_node, ended, node_digest, item_digest, bare_at_digest, jid_at_digest, bare_digest, jid_digest, pair_digest, text_digest}

pub both : (a b : Bool) → a && b ≡ true → (a ≡ true) × (b ≡ true)
both true true h = (refl, refl)
both true false h = cc
both false b h = cc

bare_parts : (a b : Jid) → same_bare a b ≡ true → (a.local ≡ b.local) × (a.host ≡ b.host)
unfolding same_bare
bare_parts a b h =
    let p = both (bytes_eq a.local b.local) (bytes_eq a.host b.host) h in
    ((bytes_eq-Decides a.local b.local).0 p.0, (bytes_eq-Decides a.host b.host).0 p.1)

one_bare : (hasher : DefaultHasher) (a b : Jid) → same_bare a b ≡ true → with_bare hasher b ≡ with_bare hasher a
unfolding with_bare
one_bare hasher a b h =
    let p = bare_parts a b h in
    ap (λ x. with_text (with_text hasher x) b.host) (sym p.0) ∙ ap (λ x. with_text (with_text hasher a.local) x) (sym p.1)

pub one_node : (seed : ℕ) (a b : NodeKey) → same_node a b ≡ true → node_digest seed b ≡ node_digest seed a
one_node seed a b h = ap (node_digest seed) (sym ((same_node-Decides a b).0 h))

pub one_item : (seed : ℕ) (a b : NodeKey) (i j : List ℕ) → same_node a b ≡ true → bytes_eq i j ≡ true → item_digest seed b j ≡ item_digest seed a i
one_item seed a b i j h k = ap (λ x. item_digest seed x j) (sym ((same_node-Decides a b).0 h)) ∙ ap (item_digest seed a) (sym ((bytes_eq-Decides i j).0 k))

pub one_bare_at : (seed : ℕ) (a b : NodeKey) (u v : Jid) → same_node a b ≡ true → same_bare u v ≡ true → bare_at_digest seed b v ≡ bare_at_digest seed a u
unfolding bare_at_digest
one_bare_at seed a b u v h k = ap (λ x. ended (with_bare (with_node (begun seed) x) v)) (sym ((same_node-Decides a b).0 h)) ∙ ap ended (one_bare (with_node (begun seed) a) u v k)

pub one_jid_at : (seed : ℕ) (a b : NodeKey) (u v : Jid) → same_node a b ≡ true → same_jid u v ≡ true → jid_at_digest seed b v ≡ jid_at_digest seed a u
one_jid_at seed a b u v h k = ap (λ x. jid_at_digest seed x v) (sym ((same_node-Decides a b).0 h)) ∙ ap (jid_at_digest seed a) (sym ((same_jid-Decides u v).0 k))

pub one_address : (seed : ℕ) (a b : Jid) → same_bare a b ≡ true → bare_digest seed b ≡ bare_digest seed a
unfolding bare_digest
one_address seed a b h = ap ended (one_bare (begun seed) a b h)

pub one_jid : (seed : ℕ) (a b : Jid) → same_jid a b ≡ true → jid_digest seed b ≡ jid_digest seed a
one_jid seed a b h = ap (jid_digest seed) (sym ((same_jid-Decides a b).0 h))

pub one_pair : (seed : ℕ) (a b u v : Jid) → same_bare a b ≡ true → same_bare u v ≡ true → pair_digest seed b v ≡ pair_digest seed a u
unfolding pair_digest
one_pair seed a b u v h k = ap (λ x. ended (with_bare x v)) (one_bare (begun seed) a b h) ∙ ap ended (one_bare (with_bare (begun seed) a) u v k)

pub one_text : (seed : ℕ) (a b : List ℕ) → bytes_eq a b ≡ true → text_digest seed b ≡ text_digest seed a
one_text seed a b h = ap (text_digest seed) (sym ((bytes_eq-Decides a b).0 h))

-- an address of a bare one has its host
pub one_host : (seed : ℕ) (a b : Jid) → same_bare a b ≡ true → text_digest seed b.host ≡ text_digest seed a.host
one_host seed a b h = ap (text_digest seed) (sym (bare_parts a b h).1)

-- exactly the same addresses are of one bare one
pub bare_of_jid : (a b : Jid) → same_jid a b ≡ true → same_bare a b ≡ true
unfolding same_bare same_jid
bare_of_jid a b h = (let p = both (bytes_eq a.local b.local) _ h in let q = both (bytes_eq a.host b.host) _ p.1 in rw (p.0, q.0) refl)

pub bare-back : (a b : Jid) → same_bare a b ≡ true → same_bare b a ≡ true
unfolding same_bare
bare-back a b h =
    let p = both (bytes_eq a.local b.local) (bytes_eq a.host b.host) h in
    let l = (bytes_eq-Decides b.local a.local).1 (sym ((bytes_eq-Decides a.local b.local).0 p.0)) in
    let n = (bytes_eq-Decides b.host a.host).1 (sym ((bytes_eq-Decides a.host b.host).0 p.1)) in
    rw (l, n) refl

pub bare-on : (a b c : Jid) → same_bare a b ≡ true → same_bare b c ≡ true → same_bare a c ≡ true
unfolding same_bare
bare-on a b c h k =
    let p = both (bytes_eq a.local b.local) (bytes_eq a.host b.host) h in
    let q = both (bytes_eq b.local c.local) (bytes_eq b.host c.host) k in
    let l = (bytes_eq-Decides a.local c.local).1 ((bytes_eq-Decides a.local b.local).0 p.0 ∙ (bytes_eq-Decides b.local c.local).0 q.0) in
    let n = (bytes_eq-Decides a.host c.host).1 ((bytes_eq-Decides a.host b.host).0 p.1 ∙ (bytes_eq-Decides b.host c.host).0 q.1) in
    rw (l, n) refl

pub node-back : (a b : NodeKey) → same_node a b ≡ true → same_node b a ≡ true
node-back a b h = (same_node-Decides b a).1 (sym ((same_node-Decides a b).0 h))

pub node-on : (a b c : NodeKey) → same_node a b ≡ true → same_node b c ≡ true → same_node a c ≡ true
node-on a b c h k = (same_node-Decides a c).1 ((same_node-Decides a b).0 h ∙ (same_node-Decides b c).0 k)
