-- By what rows are found: digests by SipHash-1-3, which begins with a seed. After each text stands the byte 255, which no text in UTF-8 has,
-- so that texts are not told apart by their sum alone.
use Rattle.std.specs.Prelude.{ℕ, ◌/◌, List, [], ◌∷◌}
use Rattle.std.specs.Hash.DefaultHasher as sip
use Rattle.std.specs.declared.hash.DefaultHasher.{DefaultHasher}
use Rattle.ps_chains.specs.Seeding.{begun}
use Rattle.ps_types.specs.declared.node.NodeKey.{NodeKey}
use Rattle.ps_types.specs.declared.jid.Jid.{Jid}

unfoldable pub with_text : DefaultHasher → List ℕ → DefaultHasher
with_text hasher text = sip.write (sip.write hasher text) (255 ∷ [])

unfoldable pub with_bare : DefaultHasher → Jid → DefaultHasher
with_bare hasher who = with_text (with_text hasher who.local) who.host

unfoldable pub with_jid : DefaultHasher → Jid → DefaultHasher
with_jid hasher who = with_text (with_bare hasher who) who.resource

unfoldable pub with_node : DefaultHasher → NodeKey → DefaultHasher
with_node hasher node = with_text (with_jid hasher node.service) node.name

-- a digest is kept in 63 bits
unfoldable pub ended : DefaultHasher → ℕ
ended hasher = sip.finish hasher / 2

-- the digest of a node
unfoldable pub node_digest : ℕ → NodeKey → ℕ
node_digest seed node = ended (with_node (begun seed) node)

-- of an item by its node and id
unfoldable pub item_digest : ℕ → NodeKey → List ℕ → ℕ
item_digest seed node id = ended (with_text (with_node (begun seed) node) id)

-- of a bare address at a node
unfoldable pub bare_at_digest : ℕ → NodeKey → Jid → ℕ
bare_at_digest seed node who = ended (with_bare (with_node (begun seed) node) who)

-- of an address with its resource at a node
unfoldable pub jid_at_digest : ℕ → NodeKey → Jid → ℕ
jid_at_digest seed node who = ended (with_jid (with_node (begun seed) node) who)

-- of a bare address
unfoldable pub bare_digest : ℕ → Jid → ℕ
bare_digest seed who = ended (with_bare (begun seed) who)

-- of an address with its resource
unfoldable pub jid_digest : ℕ → Jid → ℕ
jid_digest seed who = ended (with_jid (begun seed) who)

-- of two bare addresses
unfoldable pub pair_digest : ℕ → Jid → Jid → ℕ
pair_digest seed a b = ended (with_bare (with_bare (begun seed) a) b)

-- of a text
unfoldable pub text_digest : ℕ → List ℕ → ℕ
text_digest seed text = ended (with_text (begun seed) text)
