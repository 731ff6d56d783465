-- What a run of a mirror reports, and how it ends.
use Rattle.std.specs.Prelude.{ℕ, ◌≡◌, ◌≤◌, ◌^◌, List, [], ◌∷◌, ◌++◌, Option, Some, None, Result, IfOk, OnOk, IsErrOf, filter, map}
use Rattle.ps_base.specs.Causes.{Rose}
use Rattle.ps_types.specs.Lines.{lines_of}
use Rattle.ps_types.specs.Print.{print}
use Rattle.ps_types.specs.declared.jid.Jid.{Jid}
use Rattle.ps_types.specs.declared.node.NodeKey.{NodeKey}
use Rattle.ps_wire.specs.Reading.{Gave}
use Rattle.ps_wire.specs.declared.lines.NextLineRefusal.{NextLineRefusal}
use Rattle.ps_wire.specs.declared.lines.NextLineRefusal.TheVariants.{ReadFault, Long}
use Rattle.ps_mirror.specs.Copy.{copy}
use Rattle.ps_mirror.specs.Filled.{IsReadWhole, is_short}
use Rattle.ps_mirror.specs.Mirrored.{item_tree}
use Rattle.ps_mirror.specs.declared.copied.Copied.{Copied}

-- an item's line, as an answer to a request for items has the item, with its newline
abbrev pub reported_line : Copied → List ℕ
reported_line item = print (item_tree item) ++ 10 ∷ []

abbrev pub reported_lines : List Copied → List (List ℕ)
reported_lines items = map reported_line items

-- The items of the copy of all lines of these bytes, but for lines that are too long to be taken.
abbrev pub copied_of : NodeKey → Jid → ℕ → List ℕ → List Copied
copied_of node who max bytes = (copy node who max (filter is_short (lines_of bytes))).items

-- they are reported, of a source that tells its bytes
abbrev pub IsReport : NodeKey → Jid → ℕ → Option (List ℕ) → List (List ℕ) → Type 0
IsReport node who max None lines = Unit {0}
IsReport node who max (Some bytes) lines = lines ≡ reported_lines (copied_of node who max bytes)

-- What came of a source by its bytes and its count of faults, before and now: it was read to its end, and the lines are the report; or it failed; or it gave 2^40 bytes;
-- or memory ran out.
pub record RanMirror (node : NodeKey) (who : Jid) (max : ℕ) (before left : Option (List ℕ)) (faults faults_now : ℕ)
    (outcome : Result (List (List ℕ)) NextLineRefusal) : Type 0 where
  pub given : ℕ
  pub gave : Gave before left 0 given
  pub report : IfOk outcome (λ lines. IsReport node who max before lines)
  pub whole : OnOk outcome (IsReadWhole before left)
  pub later : faults ≤ faults_now
  pub fault : IsErrOf outcome ReadFault → Rose faults faults_now
  pub long : IsErrOf outcome Long → given ≡ 2 ^ 40
