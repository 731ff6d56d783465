-- Cases of what is told of a node, computed.
use Rattle.std.specs.Prelude.{refl, ◌∷◌, []}
use lib.Utf8 as utf8
use Rattle.json.specs.Json as json
use Rattle.json.specs.Lex as lex
use Rattle.json.specs.Print as text
use Rattle.json.specs.Text as content
use Rattle.std.specs.Str as str
use Rattle.std.specs.Fmt as fmt
use Rattle.ps_types.specs.Same as same
use Rattle.ps_model_cases.specs.NoticeCases as it
use Rattle.ps_model_cases.specs.Case.{Holds}
use Rattle.ps_model_cases.proofs.Parts.{each-part}

pub published-item-holds : Holds it.published_item (it.item_notice ∷ [])
unfolding same.same_jid same.same_bare same.same_node text.escape_byte fmt.digits str.is_utf8 str.chars utf8.encode json.value lex.punctuate lex.lex content.content
published-item-holds = record { replies = refl; entries = refl; notices = each-part it.published_item (it.item_notice ∷ []) refl }

pub addresses-holds : Holds it.addresses it.addresses_told
unfolding same.same_jid same.same_bare same.same_node text.escape_byte fmt.digits str.is_utf8 str.chars utf8.encode json.value lex.punctuate lex.lex content.content
addresses-holds = record { replies = refl; entries = refl; notices = each-part it.addresses it.addresses_told refl }

pub retracted-holds : Holds it.retracted it.retracted_told
unfolding same.same_jid same.same_bare same.same_node text.escape_byte fmt.digits str.is_utf8 str.chars utf8.encode json.value lex.punctuate lex.lex content.content
retracted-holds = record { replies = refl; entries = refl; notices = each-part it.retracted it.retracted_told refl }

pub each-kind-holds : Holds it.each_kind it.each_kind_told
unfolding same.same_jid same.same_bare same.same_node text.escape_byte fmt.digits str.is_utf8 str.chars utf8.encode json.value lex.punctuate lex.lex content.content
each-kind-holds = record { replies = refl; entries = refl; notices = each-part it.each_kind it.each_kind_told refl }

pub while-present-holds : Holds it.while_present it.while_present_told
unfolding same.same_jid same.same_bare same.same_node text.escape_byte fmt.digits str.is_utf8 str.chars utf8.encode json.value lex.punctuate lex.lex content.content
while-present-holds = record { replies = refl; entries = refl; notices = each-part it.while_present it.while_present_told refl }
