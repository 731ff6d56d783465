-- Cases of the access models, computed.
use Rattle.std.specs.Prelude.{refl}
use lib.Utf8 as utf8
use Rattle.json.specs.Json as json
use Rattle.json.specs.Lex as lex
use Rattle.json.specs.Print as text
use Rattle.json.specs.Text as content
use Rattle.std.specs.Str as str
use Rattle.std.specs.Fmt as fmt
use Rattle.ps_types.specs.Same as same
use Rattle.ps_model_cases.specs.AccessCases as it
use Rattle.ps_model_cases.specs.Case.{Holds}
use Rattle.ps_model_cases.proofs.Parts.{each-part}

pub whitelist-holds : Holds it.whitelist it.whitelist_told
unfolding same.same_jid same.same_bare same.same_node text.escape_byte fmt.digits str.is_utf8 str.chars utf8.encode json.value lex.punctuate lex.lex content.content
whitelist-holds = record { replies = refl; entries = refl; notices = each-part it.whitelist it.whitelist_told refl }

pub approved-holds : Holds it.approved it.approved_told
unfolding same.same_jid same.same_bare same.same_node text.escape_byte fmt.digits str.is_utf8 str.chars utf8.encode json.value lex.punctuate lex.lex content.content
approved-holds = record { replies = refl; entries = refl; notices = each-part it.approved it.approved_told refl }

pub refused-holds : Holds it.refused it.refused_told
unfolding same.same_jid same.same_bare same.same_node text.escape_byte fmt.digits str.is_utf8 str.chars utf8.encode json.value lex.punctuate lex.lex content.content
refused-holds = record { replies = refl; entries = refl; notices = each-part it.refused it.refused_told refl }

pub subscribers-holds : Holds it.subscribers it.subscribers_told
unfolding same.same_jid same.same_bare same.same_node text.escape_byte fmt.digits str.is_utf8 str.chars utf8.encode json.value lex.punctuate lex.lex content.content
subscribers-holds = record { replies = refl; entries = refl; notices = each-part it.subscribers it.subscribers_told refl }
