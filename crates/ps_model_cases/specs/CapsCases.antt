-- Capability strings: an answer that has the hash counts for all who have it, and another for the one who gave it alone.
use Rattle.std.specs.Prelude.{ℕ, List, [], ◌∷◌, ◌++◌, None, codes}
use Rattle.ps_types.specs.CapString.{info_of}
use Rattle.ps_types.specs.Namespaces.{info_ns}
use Rattle.ps_types.specs.Shape.{element}
use Rattle.ps_types.specs.Tree.{Tree}
use Rattle.ps_types.specs.declared.form.Info.{Info}
use Rattle.ps_types.specs.declared.entry.Notice.{Notice}
use Rattle.ps_model_cases.specs.Case.{Exchange, kept, answered}
use Rattle.ps_model_cases.specs.HomeCases.{answer, asked, feature, info, presence}
use Rattle.ps_model_cases.specs.Words.{User, of_b, sends, to_b}

-- ---- the example of XEP-0115 §5.2

abbrev pub ver : List ℕ
ver = codes "QgayPKawpkPSDYmwT/WM94uAlu0="

abbrev pub muc : Tree
muc = feature (codes "http://jabber.org/protocol/muc")

abbrev pub exodus : List Tree
exodus =
    element (codes "identity") info_ns ((codes "category", codes "client") ∷ (codes "name", codes "Exodus 0.9.1") ∷ (codes "type", codes "pc") ∷ []) []
    ∷ feature (codes "http://jabber.org/protocol/disco#info")
    ∷ feature (codes "http://jabber.org/protocol/disco#items")
    ∷ muc
    ∷ feature (codes "http://jabber.org/protocol/caps")
    ∷ []

abbrev pub exodus_info : Info
exodus_info = info_of (info ver exodus)

abbrev pub exodus_string : List ℕ
exodus_string = codes "client/pc//Exodus 0.9.1<http://jabber.org/protocol/caps<http://jabber.org/protocol/disco#info<http://jabber.org/protocol/disco#items<http://jabber.org/protocol/muc<"

-- ---- three resources with that hash

abbrev pub resource : List ℕ → User
resource name = of_b (codes "bob@b.example/" ++ name)

abbrev pub p : User
p = resource (codes "p")

abbrev pub is_present : ℕ → User → Exchange
is_present number user = kept (sends user number (presence user ver)) None

-- to the question of that id
abbrev pub answers : ℕ → User → List ℕ → List Tree → Exchange
answers number user id kids = kept (sends user number (answer user id (info ver kids))) None

-- the first answers something else, and is believed for itself alone; the second answers exactly, and the third isn't asked
abbrev pub verified : List Exchange
verified =
    is_present 1 p
    ∷ answers 2 p (codes "n-1") (exodus ++ feature (codes "urn:more") ∷ [])
    ∷ is_present 3 (resource (codes "q"))
    ∷ answers 4 (resource (codes "q")) (codes "n-2") exodus
    ∷ is_present 5 (resource (codes "r"))
    ∷ []

abbrev pub verified_told : List Notice
verified_told = asked (to_b (codes "bob") (codes "p")) 1 1 ver ∷ asked (to_b (codes "bob") (codes "q")) 3 2 ver ∷ []

abbrev pub muc_twice : List Tree
muc_twice = exodus ++ muc ∷ []

abbrev pub repeated_info : Info
repeated_info = info_of (info ver muc_twice)

-- an answer with a feature named twice changes nothing, and the next is asked again
abbrev pub repeated : List Exchange
repeated =
    is_present 1 p
    ∷ answered (sends p 2 (answer p (codes "n-1") (info ver muc_twice))) None
    ∷ is_present 3 (resource (codes "q"))
    ∷ []

abbrev pub repeated_told : List Notice
repeated_told = asked (to_b (codes "bob") (codes "p")) 1 1 ver ∷ asked (to_b (codes "bob") (codes "q")) 2 2 ver ∷ []
