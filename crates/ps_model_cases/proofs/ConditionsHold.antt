-- Cases of requests that are denied, computed.
use Rattle.std.specs.Prelude.{refl, []}
use lib.Utf8 as utf8
use Rattle.json.specs.Json as json
use Rattle.json.specs.Lex as lex
use Rattle.json.specs.Print as text
use Rattle.json.specs.Text as content
use Rattle.std.specs.Str as str
use Rattle.std.specs.Fmt as fmt
use Rattle.ps_types.specs.Same as same
use Rattle.ps_model_cases.specs.ConditionCases as it
use Rattle.ps_model_cases.specs.Case.{Holds}
use Rattle.ps_model_cases.proofs.Parts.{each-part}

pub bad-requests-holds : Holds it.bad_requests []
unfolding same.same_jid same.same_bare same.same_node text.escape_byte fmt.digits str.is_utf8 str.chars utf8.encode json.value lex.punctuate lex.lex content.content
bad-requests-holds = record { replies = refl; entries = refl; notices = each-part it.bad_requests [] refl }

pub approvals-holds : Holds it.approvals it.approvals_told
unfolding same.same_jid same.same_bare same.same_node text.escape_byte fmt.digits str.is_utf8 str.chars utf8.encode json.value lex.punctuate lex.lex content.content
approvals-holds = record { replies = refl; entries = refl; notices = each-part it.approvals it.approvals_told refl }

pub addresses-holds : Holds it.addresses []
unfolding same.same_jid same.same_bare same.same_node text.escape_byte fmt.digits str.is_utf8 str.chars utf8.encode json.value lex.punctuate lex.lex content.content
addresses-holds = record { replies = refl; entries = refl; notices = each-part it.addresses [] refl }

pub unsupported-requests-holds : Holds it.unsupported_requests []
unfolding same.same_jid same.same_bare same.same_node text.escape_byte fmt.digits str.is_utf8 str.chars utf8.encode json.value lex.punctuate lex.lex content.content
unsupported-requests-holds = record { replies = refl; entries = refl; notices = each-part it.unsupported_requests [] refl }
