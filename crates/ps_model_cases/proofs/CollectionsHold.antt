-- Cases of collections, computed.
use Rattle.std.specs.Prelude.{refl}
use lib.Utf8 as utf8
use Rattle.json.specs.Json as json
use Rattle.json.specs.Lex as lex
use Rattle.json.specs.Print as text
use Rattle.json.specs.Text as content
use Rattle.std.specs.Str as str
use Rattle.std.specs.Fmt as fmt
use Rattle.ps_types.specs.Same as same
use Rattle.ps_model_cases.specs.CollectionCases as it
use Rattle.ps_model_cases.specs.Case.{Holds}
use Rattle.ps_model_cases.proofs.Parts.{each-part}

pub deep-holds : Holds it.deep it.deep_told
unfolding same.same_jid same.same_bare same.same_node text.escape_byte fmt.digits str.is_utf8 str.chars utf8.encode json.value lex.punctuate lex.lex content.content
deep-holds = record { replies = refl; entries = refl; notices = each-part it.deep it.deep_told refl }

pub near-holds : Holds it.near it.near_told
unfolding same.same_jid same.same_bare same.same_node text.escape_byte fmt.digits str.is_utf8 str.chars utf8.encode json.value lex.punctuate lex.lex content.content
near-holds = record { replies = refl; entries = refl; notices = each-part it.near it.near_told refl }

pub kept-together-holds : Holds it.kept_together it.deep_told
unfolding same.same_jid same.same_bare same.same_node text.escape_byte fmt.digits str.is_utf8 str.chars utf8.encode json.value lex.punctuate lex.lex content.content
kept-together-holds = record { replies = refl; entries = refl; notices = each-part it.kept_together it.deep_told refl }

pub new-node-holds : Holds it.new_node it.new_node_told
unfolding same.same_jid same.same_bare same.same_node text.escape_byte fmt.digits str.is_utf8 str.chars utf8.encode json.value lex.punctuate lex.lex content.content
new-node-holds = record { replies = refl; entries = refl; notices = each-part it.new_node it.new_node_told refl }
