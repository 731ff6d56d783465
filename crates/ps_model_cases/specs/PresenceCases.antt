-- Resources that go, and one whose capabilities were verified by another.
use Rattle.std.specs.Prelude.{ℕ, List, [], ◌∷◌, ◌++◌, None, codes}
use Rattle.ps_types.specs.Namespaces.{info_ns}
use Rattle.ps_types.specs.Print.{client}
use Rattle.ps_types.specs.Shape.{element}
use Rattle.ps_types.specs.Tree.{Tree}
use Rattle.ps_types.specs.declared.entry.Notice.{Notice}
use Rattle.ps_model_cases.specs.Case.{Exchange, answered, kept}
use Rattle.ps_model_cases.specs.Handed.{event_of, from_ann, headline}
use Rattle.ps_model_cases.specs.HomeCases.{answer, asked, feature, has_bob, info, presence, publishes, t}
use Rattle.ps_model_cases.specs.NoticeCases as notices
use Rattle.ps_model_cases.specs.Words.{User, ann, bob, bare_bob, news, of_b, to_b, to_bob, sets, sends, done, field, create_with, subscribe, subscribed}

-- ---- what was present goes; what isn't there can't

abbrev pub unavailable : Tree
unavailable = element (codes "presence") client ((codes "from", codes "bob@b.example/1") ∷ (codes "type", codes "unavailable") ∷ []) []

abbrev pub absent : List Exchange
absent =
    done (sets ann 1 (create_with news (field (codes "presence_based_delivery") (codes "1") ∷ []))) []
    ∷ done (sets bob 1 (subscribe bare_bob news)) (subscribed bare_bob news)
    ∷ answered (sends bob 2 unavailable) None
    ∷ notices.present 3
    ∷ notices.publishes 2 (codes "a")
    ∷ kept (sends bob 4 unavailable) None
    ∷ notices.publishes 3 (codes "b")
    ∷ answered (sends bob 5 unavailable) None
    ∷ []

abbrev pub absent_told : List Notice
absent_told = headline to_bob 4 1 (event_of news (codes "a") ∷ []) ∷ []

-- ---- the answer of one resource counts for the next: it isn't asked, and gets the last item with its presence

abbrev pub resource : List ℕ → User
resource name = of_b (codes "bob@b.example/" ++ name)

-- the SHA-1 of `client/pc//Test<urn:t+notify<` in base64
abbrev pub ver : List ℕ
ver = codes "uvRnJtAogaW3D54LmaCn5LarpQs="

abbrev pub test_client : List Tree
test_client =
    element (codes "identity") info_ns ((codes "category", codes "client") ∷ (codes "name", codes "Test") ∷ (codes "type", codes "pc") ∷ []) []
    ∷ feature (codes "urn:t+notify")
    ∷ []

abbrev pub is_present : ℕ → User → Exchange
is_present number user = kept (sends user number (presence user ver)) None

abbrev pub known : List Exchange
known =
    publishes 1 (codes "m")
    ∷ has_bob 2 (codes "both")
    ∷ is_present 1 (resource (codes "p"))
    ∷ kept (sends (resource (codes "p")) 2 (answer (resource (codes "p")) (codes "n-1") (info ver test_client))) None
    ∷ is_present 3 (resource (codes "q"))
    ∷ answered (sends (resource (codes "q")) 4 (presence (resource (codes "q")) ver)) None
    ∷ []

abbrev pub known_told : List Notice
known_told =
    asked (to_b (codes "bob") (codes "p")) 3 1 ver
    ∷ from_ann (to_b (codes "bob") (codes "p")) 4 2 (event_of t (codes "m") ∷ [])
    ∷ from_ann (to_b (codes "bob") (codes "q")) 5 3 (event_of t (codes "m") ∷ [])
    ∷ []
