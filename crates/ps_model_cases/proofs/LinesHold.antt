-- Lines as bytes, computed.
use Rattle.std.specs.Prelude.{refl}
use lib.Utf8 as utf8
use Rattle.json.specs.Json as json
use Rattle.json.specs.Lex as lex
use Rattle.json.specs.Print as text
use Rattle.json.specs.Text as content
use Rattle.json.specs.Word as word
use Rattle.serde_json.specs.Read as read
use Rattle.std.specs.Float.Numeral as numeral
use Rattle.std.specs.Fmt as fmt
use Rattle.std.specs.Str as str
use Rattle.ps_types.specs.Same as same
use Rattle.ps_model_cases.specs.LineCases as it

pub first-lines : it.FirstLines
unfolding same.same_jid same.same_bare same.same_node text.escape_byte fmt.digits str.is_utf8 str.chars utf8.encode json.value lex.punctuate lex.lex content.content
first-lines = record { reply = refl; entry = refl; second_reply = refl; no_entry = refl }

pub are-refused : it.Refusals
unfolding same.same_jid same.same_bare same.same_node text.escape_byte fmt.digits str.is_utf8 str.chars utf8.encode json.value lex.punctuate lex.lex content.content word.word word.after_number
    read.number_of numeral.scan_numeral
are-refused = refl
