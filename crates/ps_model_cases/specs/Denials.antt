-- The denials of worked cases, as the trees that they are answered by.
use Rattle.std.specs.Prelude.{ℕ, List, [], ◌∷◌, codes}
use Rattle.ps_types.specs.Namespaces.{errors_ns, stanzas_ns}
use Rattle.ps_types.specs.Shape.{element}
use Rattle.ps_types.specs.Tree.{Tree}
use Rattle.ps_model_cases.specs.Words.{Denial}

abbrev pub condition : List ℕ → Tree
condition name = element name stanzas_ns [] []

abbrev pub special : List ℕ → Tree
special name = element name errors_ns [] []

-- a condition alone, and one that says more
abbrev pub plain : List ℕ → List ℕ → Denial
plain type name = (type, condition name ∷ [])

abbrev pub more : List ℕ → List ℕ → List ℕ → Denial
more type name extra = (type, condition name ∷ special extra ∷ [])

abbrev pub forbidden : Denial
forbidden = plain (codes "auth") (codes "forbidden")

abbrev pub no_such_item : Denial
no_such_item = plain (codes "cancel") (codes "item-not-found")

abbrev pub conflict : Denial
conflict = plain (codes "cancel") (codes "conflict")

abbrev pub not_acceptable : Denial
not_acceptable = plain (codes "modify") (codes "not-acceptable")

abbrev pub bad_request : Denial
bad_request = plain (codes "modify") (codes "bad-request")

abbrev pub bad_address : Denial
bad_address = plain (codes "modify") (codes "jid-malformed")

abbrev pub no_room : Denial
no_room = plain (codes "wait") (codes "resource-constraint")

abbrev pub not_here : Denial
not_here = plain (codes "cancel") (codes "service-unavailable")

abbrev pub unknown : Denial
unknown = plain (codes "cancel") (codes "feature-not-implemented")

abbrev pub too_many_subscriptions : Denial
too_many_subscriptions = more (codes "wait") (codes "policy-violation") (codes "too-many-subscriptions")

abbrev pub bad : List ℕ → Denial
bad extra = more (codes "modify") (codes "bad-request") extra

abbrev pub refused_as : List ℕ → Denial
refused_as extra = more (codes "modify") (codes "not-acceptable") extra

abbrev pub not_authorized : List ℕ → Denial
not_authorized extra = more (codes "auth") (codes "not-authorized") extra

abbrev pub closed_node : Denial
closed_node = more (codes "cancel") (codes "not-allowed") (codes "closed-node")

abbrev pub not_met : Denial
not_met = more (codes "cancel") (codes "conflict") (codes "precondition-not-met")

abbrev pub nothing_to_end : Denial
nothing_to_end = more (codes "cancel") (codes "unexpected-request") (codes "not-subscribed")

abbrev pub unsupported : List ℕ → Denial
unsupported feature = (codes "cancel", condition (codes "feature-not-implemented") ∷ element (codes "unsupported") errors_ns ((codes "feature", feature) ∷ []) [] ∷ [])
