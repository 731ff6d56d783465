-- Cases of nodes and their items, computed.
use Rattle.std.specs.Prelude.{refl, []}
use lib.Utf8 as utf8
use Rattle.json.specs.Json as json
use Rattle.json.specs.Lex as lex
use Rattle.json.specs.Print as text
use Rattle.json.specs.Text as content
use Rattle.std.specs.Str as str
use Rattle.std.specs.Fmt as fmt
use Rattle.ps_types.specs.Same as same
use Rattle.ps_model_cases.specs.NodeCases as it
use Rattle.ps_model_cases.specs.Case.{Holds}
use Rattle.ps_model_cases.proofs.Parts.{each-part}

pub ids-holds : Holds it.ids []
unfolding same.same_jid same.same_bare same.same_node text.escape_byte fmt.digits str.is_utf8 str.chars utf8.encode json.value lex.punctuate lex.lex content.content
ids-holds = record { replies = refl; entries = refl; notices = each-part it.ids [] refl }

pub items-holds : Holds it.items []
unfolding same.same_jid same.same_bare same.same_node text.escape_byte fmt.digits str.is_utf8 str.chars utf8.encode json.value lex.punctuate lex.lex content.content
items-holds = record { replies = refl; entries = refl; notices = each-part it.items [] refl }

pub owners-holds : Holds it.owners []
unfolding same.same_jid same.same_bare same.same_node text.escape_byte fmt.digits str.is_utf8 str.chars utf8.encode json.value lex.punctuate lex.lex content.content
owners-holds = record { replies = refl; entries = refl; notices = each-part it.owners [] refl }

pub others-holds : Holds it.others []
unfolding same.same_jid same.same_bare same.same_node text.escape_byte fmt.digits str.is_utf8 str.chars utf8.encode json.value lex.punctuate lex.lex content.content
others-holds = record { replies = refl; entries = refl; notices = each-part it.others [] refl }

pub configuration-holds : Holds it.configuration []
unfolding same.same_jid same.same_bare same.same_node text.escape_byte fmt.digits str.is_utf8 str.chars utf8.encode json.value lex.punctuate lex.lex content.content
configuration-holds = record { replies = refl; entries = refl; notices = each-part it.configuration [] refl }

pub numbers-holds : Holds it.numbers []
unfolding same.same_jid same.same_bare same.same_node text.escape_byte fmt.digits str.is_utf8 str.chars utf8.encode json.value lex.punctuate lex.lex content.content
numbers-holds = record { replies = refl; entries = refl; notices = each-part it.numbers [] refl }

pub discovery-holds : Holds it.discovery []
unfolding same.same_jid same.same_bare same.same_node text.escape_byte fmt.digits str.is_utf8 str.chars utf8.encode json.value lex.punctuate lex.lex content.content
discovery-holds = record { replies = refl; entries = refl; notices = each-part it.discovery [] refl }
