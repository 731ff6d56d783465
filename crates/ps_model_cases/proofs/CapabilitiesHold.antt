-- Cases of capabilities, computed.
use Rattle.std.specs.Prelude.{◌≡◌, refl, true, Some}
use Rattle.base64.specs.Rfc4648 as b64
use lib.Utf8 as utf8
use Rattle.json.specs.Json as json
use Rattle.json.specs.Lex as lex
use Rattle.json.specs.Print as text
use Rattle.json.specs.Text as content
use Rattle.std.specs.Str as str
use Rattle.sha1.specs.Sha1 as sha
use Rattle.std.specs.Fmt as fmt
use Rattle.ps_types.specs.CapString.{cap_string, is_ill_formed}
use Rattle.ps_types.specs.CapVer.{ver_of}
use Rattle.ps_types.specs.Same as same
use Rattle.ps_model_cases.specs.CapsCases as it
use Rattle.ps_model_cases.specs.Case.{Holds}
use Rattle.ps_model_cases.proofs.Parts.{each-part}

pub exodus-string : cap_string it.exodus_info ≡ it.exodus_string
exodus-string = refl

pub exodus-ver : ver_of it.exodus_info ≡ Some it.ver
unfolding b64.encode_symbols sha.sha1 sha.digest_bytes sha.hash_after sha.compress sha.rounds sha.schedule sha.first_words
exodus-ver = refl

pub ill-formed : is_ill_formed it.repeated_info ≡ true
ill-formed = refl

pub verified-holds : Holds it.verified it.verified_told
unfolding same.same_jid same.same_bare same.same_node text.escape_byte fmt.digits str.is_utf8 str.chars utf8.encode json.value lex.punctuate lex.lex content.content b64.encode_symbols sha.sha1
    sha.digest_bytes sha.hash_after sha.compress sha.rounds sha.schedule sha.first_words
verified-holds = record { replies = refl; entries = refl; notices = each-part it.verified it.verified_told refl }

pub repeated-holds : Holds it.repeated it.repeated_told
unfolding same.same_jid same.same_bare same.same_node text.escape_byte fmt.digits str.is_utf8 str.chars utf8.encode json.value lex.punctuate lex.lex content.content
repeated-holds = record { replies = refl; entries = refl; notices = each-part it.repeated it.repeated_told refl }
