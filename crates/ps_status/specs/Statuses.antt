-- How a run ends: the status's code, and the line that is reported.
use Rattle.std.specs.Prelude.{ℕ, List, [], ◌∷◌, ◌++◌, codes, decimal}
use Rattle.ps_status.specs.declared.status.Status.{Status}
use Rattle.ps_status.specs.declared.status.Status.TheVariants.{Done, Usage, OpenFault, FeedBad, StoreDamaged, StoreFault, StoreFull, Occupied, StreamFault, StreamLong, Memory}

abbrev pub code_of : Status → ℕ
code_of Done = 0
code_of Usage = 2
code_of StreamFault = 3
code_of StoreFault = 4
code_of (StoreDamaged at) = 5
code_of StoreFull = 6
code_of Memory = 7
code_of StreamLong = 8
code_of OpenFault = 9
code_of Occupied = 10
code_of (FeedBad at) = 11

abbrev pub usage_line : List ℕ
usage_line = codes "usage: pubsubd serve --service HOST --store PATH HOST IN OUT [HOST IN OUT].. | rehearse SEED COUNT | compact PATH NEW | explain PATH ADDRESS SERVICE NODE | readers PATH SERVICE NODE | feed PATH FROM OUT | follow HOST FEED IN OUT | mirror SERVICE NODE ADDRESS MAX IN"

-- the words of what is reported; where all was done, nothing is
abbrev pub words_of : Status → List ℕ
words_of Done = []
words_of Usage = usage_line ++ 10 ∷ []
words_of OpenFault = codes "open fault" ++ 10 ∷ []
words_of (FeedBad at) = codes "feed bad at "
words_of (StoreDamaged at) = codes "store damaged at "
words_of StoreFault = codes "store fault" ++ 10 ∷ []
words_of StoreFull = codes "store full" ++ 10 ∷ []
words_of Occupied = codes "store occupied" ++ 10 ∷ []
words_of StreamFault = codes "stream fault" ++ 10 ∷ []
words_of StreamLong = codes "stream too long" ++ 10 ∷ []
words_of Memory = codes "out of memory" ++ 10 ∷ []

-- the offset of a record or of a damage, and a newline
abbrev pub offset_of : Status → List ℕ
offset_of (FeedBad at) = decimal at ++ 10 ∷ []
offset_of (StoreDamaged at) = decimal at ++ 10 ∷ []
offset_of Done = []
offset_of Usage = []
offset_of OpenFault = []
offset_of StoreFault = []
offset_of StoreFull = []
offset_of Occupied = []
offset_of StreamFault = []
offset_of StreamLong = []
offset_of Memory = []

-- what is reported
abbrev pub report_of : Status → List ℕ
report_of status = words_of status ++ offset_of status
