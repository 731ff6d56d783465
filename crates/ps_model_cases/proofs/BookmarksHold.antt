-- Cases of bookmarks, computed.
use Rattle.std.specs.Prelude.{refl, []}
use lib.Utf8 as utf8
use Rattle.json.specs.Json as json
use Rattle.json.specs.Lex as lex
use Rattle.json.specs.Print as text
use Rattle.json.specs.Text as content
use Rattle.std.specs.Str as str
use Rattle.std.specs.Fmt as fmt
use Rattle.ps_types.specs.Same as same
use Rattle.ps_model_cases.specs.BookmarkCases as it
use Rattle.ps_model_cases.specs.Case.{Holds}
use Rattle.ps_model_cases.proofs.Parts.{each-part}

pub forty-rooms-holds : Holds it.forty_rooms []
unfolding same.same_jid same.same_bare same.same_node text.escape_byte fmt.digits str.is_utf8 str.chars utf8.encode json.value lex.punctuate lex.lex content.content
forty-rooms-holds = record { replies = refl; entries = refl; notices = each-part it.forty_rooms [] refl }
