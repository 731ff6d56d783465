-- What the report says of a whitelist with an owner and a member, and the texts of lines.
use Rattle.std.proofs.Common.{◌≡◌, ℕ, List, [], ◌∷◌, None, refl}
use Rattle.std.specs.Prelude.{codes}
use Rattle.std.specs.Fmt.{digits}
use Rattle.ps_types.specs.declared.config.Access.TheVariants.{Whitelist}
use Rattle.ps_types.specs.declared.denial.Condition.TheVariants.{C17}
use Rattle.ps_types.specs.declared.denial.Rule.TheVariants.{ByAffiliation}
use Rattle.ps_types.specs.declared.denial.Verdict.TheVariants.{Granted, Denied}
use Rattle.ps_types.specs.declared.jid.Jid.{Jid}
use Rattle.ps_types.specs.declared.node.NodeKey.{NodeKey}
use Rattle.ps_types.specs.declared.rows.Affil.TheVariants.{Owner, Member}
use Rattle.ps_types.specs.declared.rows.NodeRow.{NodeRow}
use Rattle.ps_types.specs.Defaults.{service_config}
use Rattle.ps_types.specs.Same.{same_bare, same_jid, same_node}
use Rattle.ps_model.specs.Book.{Book, empty_book}
use Rattle.ps_audit_laws.specs.History.{line_text}
use Rattle.ps_audit_laws.specs.Readers.{others, readers}
use Rattle.ps_audit_laws.specs.Verdicts.{four_at}

who : List ℕ → List ℕ → Jid
who local host = record { local = local; host = host; resource = [] }

ann : Jid
ann = who (codes "ann") (codes "a.example")

bob : Jid
bob = who (codes "bob") (codes "b.example")

w : NodeKey
w = record { service = who [] (codes "pubsub.example"); name = codes "w" }

row : NodeRow
row = record { key = w; creator = ann; config = record service_config { access_model = Whitelist } }

book : Book
book = record empty_book { nodes = row ∷ []; affils = record { node = w; who = bob; affil = Member } ∷ record { node = w; who = ann; affil = Owner } ∷ [] }

members : readers book row ≡ (ann, Granted ByAffiliation) ∷ (bob, Granted ByAffiliation) ∷ []
unfolding book row w ann bob who same_bare same_jid same_node
members = refl

rest : others row ≡ Denied C17
unfolding row
rest = refl

line : line_text (record { after = 3; four = four_at book w bob }) ≡ codes "3 read granted affiliation, subscribe granted affiliation, publish denied 11, own denied 11"
unfolding book row w ann bob who same_bare same_jid same_node digits
line = refl

stranger : line_text (record { after = 2; four = four_at book w (who (codes "eve") (codes "b.example")) }) ≡ codes "2 read denied 17, subscribe denied 17, publish denied 11, own denied 11"
unfolding book row w ann bob who same_bare same_jid same_node digits
stranger = refl

gone : line_text (record { after = 0; four = None }) ≡ codes "0 no node"
unfolding digits
gone = refl
