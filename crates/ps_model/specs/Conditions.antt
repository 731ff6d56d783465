-- Which stanza error a condition is: its name, its type, and the more special name of XEP-0060 (RFC 6120 §8.3, XEP-0060 §3). Which denial uses which is this project's profile.
use Rattle.std.specs.Prelude.{ℕ, List, [], ◌∷◌, codes}
use Rattle.ps_types.specs.declared.denial.Condition.{Condition}
use Rattle.ps_types.specs.declared.denial.Condition.TheVariants.{C1, C2, C3, C4, C5, C6, C7, C8, C9, C10, C11, C12, C13, C14, C15, C16, C17, C18, C19, C20, C21, C22, C23, C24, C25, C26, C27, C28}
use Rattle.ps_types.specs.Namespaces.{errors_ns, stanzas_ns}
use Rattle.ps_types.specs.Shape.{element}
use Rattle.ps_types.specs.Tree.{Tree}

pub record Wording : Type 0 where
  pub name : List ℕ
  pub extra : List ℕ
  pub type : List ℕ

abbrev wording : List ℕ → List ℕ → List ℕ → Wording
wording name extra type = record { name = name; extra = extra; type = type }

-- the name, the special name where there is one, and the type
abbrev pub wording_of : Condition → Wording
wording_of C1 = wording (codes "bad-request") [] (codes "modify")
wording_of C2 = wording (codes "bad-request") (codes "invalid-jid") (codes "modify")
wording_of C3 = wording (codes "bad-request") (codes "nodeid-required") (codes "modify")
wording_of C4 = wording (codes "bad-request") (codes "item-required") (codes "modify")
wording_of C5 = wording (codes "bad-request") (codes "payload-required") (codes "modify")
wording_of C6 = wording (codes "bad-request") (codes "invalid-payload") (codes "modify")
wording_of C7 = wording (codes "bad-request") (codes "item-forbidden") (codes "modify")
wording_of C8 = wording (codes "conflict") [] (codes "cancel")
wording_of C9 = wording (codes "conflict") (codes "precondition-not-met") (codes "cancel")
wording_of C10 = wording (codes "feature-not-implemented") (codes "unsupported") (codes "cancel")
wording_of C11 = wording (codes "forbidden") [] (codes "auth")
wording_of C12 = wording (codes "item-not-found") [] (codes "cancel")
wording_of C13 = wording (codes "jid-malformed") [] (codes "modify")
wording_of C14 = wording (codes "not-acceptable") [] (codes "modify")
wording_of C15 = wording (codes "not-acceptable") (codes "invalid-subid") (codes "modify")
wording_of C16 = wording (codes "not-acceptable") (codes "payload-too-big") (codes "modify")
wording_of C17 = wording (codes "not-allowed") (codes "closed-node") (codes "cancel")
wording_of C18 = wording (codes "not-authorized") (codes "presence-subscription-required") (codes "auth")
wording_of C19 = wording (codes "not-authorized") (codes "not-in-roster-group") (codes "auth")
wording_of C20 = wording (codes "not-authorized") (codes "not-subscribed") (codes "auth")
wording_of C21 = wording (codes "not-authorized") (codes "pending-subscription") (codes "auth")
wording_of C22 = wording (codes "unexpected-request") (codes "not-subscribed") (codes "cancel")
wording_of C23 = wording (codes "policy-violation") (codes "too-many-subscriptions") (codes "wait")
wording_of C24 = wording (codes "resource-constraint") [] (codes "wait")
wording_of C25 = wording (codes "service-unavailable") [] (codes "cancel")
wording_of C26 = wording (codes "feature-not-implemented") [] (codes "cancel")
wording_of C27 = wording (codes "not-acceptable") (codes "nodeid-required") (codes "modify")
wording_of C28 = wording (codes "bad-request") (codes "invalid-options") (codes "modify")

-- the feature that isn't supported
abbrev pub feature_in : Condition → List ℕ → List ℕ
feature_in C10 feature = feature
feature_in _ feature = []

-- the special condition, where there is one
abbrev pub extra_trees : List ℕ → List ℕ → List Tree
extra_trees feature [] = []
extra_trees feature (x ∷ extra) = element (x ∷ extra) errors_ns ((codes "feature", feature) ∷ []) [] ∷ []

-- the `error` child of a stanza of that namespace
abbrev pub error_tree : List ℕ → List ℕ → Condition → Tree
error_tree ns feature why =
    element (codes "error") ns ((codes "type", (wording_of why).type) ∷ []) (element (wording_of why).name stanzas_ns [] [] ∷ extra_trees (feature_in why feature) (wording_of why).extra)
