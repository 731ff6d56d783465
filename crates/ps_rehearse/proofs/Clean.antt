-- The lines of a sink are its words, as each is one line.
use Rattle.std.proofs.Common.{◌≡◌, ◌≢◌, ℕ, List, [], ◌∷◌, ◌++◌, map, refl, sym, ap, ◌∙◌, append_assoc, append-nil}
use Rattle.std.specs.Prelude.{All}
use Rattle.std.specs.List.{AllByRecursion}
use Rattle.std.proofs.lemmas.List.Elements.{All-nil, All-cons}
use Rattle.ps_types.specs.Lines.{NoNewline, joined, whole_lines}
use Rattle.ps_types.proofs.Lines.{written_one}
use Rattle.ps_trace.specs.Words.{Word, bytes_of, text_of}
use Rattle.ps_sink_laws.specs.Laws.{IsOneLine}

bytes-joined : (ws : List Word) → bytes_of ws ≡ joined (map text_of ws)
bytes-joined [] = refl
bytes-joined (w ∷ ws) = append_assoc (text_of w) (10 ∷ []) (bytes_of ws) ∙ ap (λ (l : List ℕ). text_of w ++ (10 ∷ l)) (bytes-joined ws)

all-words : (ws : List Word) → AllByRecursion IsOneLine ws → All NoNewline (map text_of ws)
all-words [] are = All-nil NoNewline
all-words (w ∷ ws) are = All-cons NoNewline (text_of w) (map text_of ws) are.0 (all-words ws are.1)

-- what was written is the lines of the words
pub whole-words : (ws : List Word) → AllByRecursion IsOneLine ws → whole_lines (bytes_of ws) ≡ map text_of ws
whole-words ws are =
    (written_one (bytes_of ws) (map text_of ws) [] (record {
      is_all = bytes-joined ws ∙ sym (append-nil (joined (map text_of ws)));
      whole = all-words ws are;
      part = All-nil (λ b. b ≢ 10);
    })).0
