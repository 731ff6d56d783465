-- Trees of one attribute, and the texts of addresses.
use Rattle.std.proofs.Common.{◌≡◌, ◌≢◌, ℕ, ◌<◌, true, List, [], ◌∷◌, refl}
use Rattle.std.specs.Str.{IsUtf8}
use Rattle.json.proofs.Printed.Utf8.{are_ascii}
use Rattle.std.specs.List.{All}
use Rattle.std.proofs.lemmas.Str.{IsUtf8-append, IsUtf8-from_ascii}
use Rattle.std.proofs.lemmas.Str.Ascii.{IsAscii-from_all}
use Rattle.ps_types.specs.Address.{IsAddress, after_slash, before_at, jid_text}
use Rattle.ps_types.specs.Attrs.{IsSorted}
use Rattle.ps_types.specs.Form.{AreTexts, HasForm, HaveForm}
use Rattle.ps_types.specs.Shape.{attrs_with}
use Rattle.ps_types.specs.Tree.{Nodes, tree}
use Rattle.ps_types.specs.declared.jid.Jid.{Jid}
use Rattle.ps_types.proofs.AddressLaws.{host-again, host-ascii, local-ascii, resource-ascii}
use Rattle.ps_rehearse_laws.proofs.Forming.{head, lit}

one-text : (k v : List ℕ) → IsUtf8 k → IsUtf8 v → AreTexts (attrs_with ((k, v) ∷ []))
one-text k [] uk uv = tt
one-text k (x ∷ v) uk uv = (uk, uv, tt)

one-sorted : (k v : List ℕ) → IsSorted (attrs_with ((k, v) ∷ []))
one-sorted k [] = tt
one-sorted k (x ∷ v) = (tt, tt)

-- with one attribute, or none where its value is empty
pub one-form : (name ns k v : List ℕ) → are_ascii name ≡ true → name ≢ [] → are_ascii ns ≡ true → are_ascii k ≡ true → IsUtf8 v → (kids : Nodes) → HaveForm kids
    → HasForm (tree name ns (attrs_with ((k, v) ∷ [])) kids)
one-form name ns k v un some us uk uv kids have = (head name ns (attrs_with ((k, v) ∷ [])) un some us (one-text k v (lit k uk) uv) (one-sorted k v), have)

-- without attributes
pub bare-form : (name ns : List ℕ) → are_ascii name ≡ true → name ≢ [] → are_ascii ns ≡ true → (kids : Nodes) → HaveForm kids → HasForm (tree name ns [] kids)
bare-form name ns un some us kids have = (head name ns [] un some us tt tt, have)

-- ---- addresses

low-text : (bs : List ℕ) → All (λ b. b < 128) bs → IsUtf8 bs
low-text bs all = IsUtf8-from_ascii bs (IsAscii-from_all bs all)

before-text : (local host : List ℕ) → IsUtf8 local → IsUtf8 host → IsUtf8 (before_at local host)
before-text [] host ul uh = uh
before-text (x ∷ local) host ul uh = IsUtf8-append (x ∷ local) (64 ∷ host) ul (IsUtf8-append (64 ∷ []) host (lit (64 ∷ []) refl) uh)

after-text : (resource : List ℕ) → IsUtf8 resource → IsUtf8 (after_slash resource)
after-text [] u = u
after-text (x ∷ resource) u = IsUtf8-append (47 ∷ []) (x ∷ resource) (lit (47 ∷ []) refl) u

pub address-text : (j : Jid) → IsAddress j → IsUtf8 (jid_text j)
address-text j is =
    IsUtf8-append (before_at j.local j.host) (after_slash j.resource)
    (before-text j.local j.host (low-text j.local (local-ascii j.local is.parts.local)) (low-text j.host (host-ascii j.host (host-again j.host is.parts.host))))
    (after-text j.resource (low-text j.resource (resource-ascii j.resource is.parts.resource)))
