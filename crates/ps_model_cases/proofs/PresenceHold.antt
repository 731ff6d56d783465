-- Cases of resources, computed.
use Rattle.std.specs.Prelude.{refl}
use Rattle.base64.specs.Rfc4648 as b64
use Rattle.sha1.specs.Sha1 as sha
use lib.Utf8 as utf8
use Rattle.json.specs.Json as json
use Rattle.json.specs.Lex as lex
use Rattle.json.specs.Print as text
use Rattle.json.specs.Text as content
use Rattle.std.specs.Str as str
use Rattle.std.specs.Fmt as fmt
use Rattle.ps_types.specs.Same as same
use Rattle.ps_model_cases.specs.PresenceCases as it
use Rattle.ps_model_cases.specs.Case.{Holds}
use Rattle.ps_model_cases.proofs.Parts.{each-part}

pub absent-holds : Holds it.absent it.absent_told
unfolding same.same_jid same.same_bare same.same_node text.escape_byte fmt.digits str.is_utf8 str.chars utf8.encode json.value lex.punctuate lex.lex content.content
absent-holds = record { replies = refl; entries = refl; notices = each-part it.absent it.absent_told refl }

pub known-holds : Holds it.known it.known_told
unfolding same.same_jid same.same_bare same.same_node text.escape_byte fmt.digits str.is_utf8 str.chars utf8.encode json.value lex.punctuate lex.lex content.content b64.encode_symbols sha.sha1
    sha.digest_bytes sha.hash_after sha.compress sha.rounds sha.schedule sha.first_words
known-holds = record { replies = refl; entries = refl; notices = each-part it.known it.known_told refl }
