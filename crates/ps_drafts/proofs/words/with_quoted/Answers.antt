use Rattle.std.proofs.Common.{ℕ, List, [], ◌∷◌, ◌++◌, ap, ap₂, ◌∙◌}
use Rattle.json.specs.Print as json
use Rattle.json.specs.Token as token
use Rattle.ps_drafts.proofs.Printed.{one-string}
use Rattle.ps_drafts.proofs.words.with_quoted.Goals as goal

pub returns : goal.returns
returns c =
    c.into_inner.ensures.items
    ∙ ap₂ (λ (front : List ℕ) (tokens : List token.Token). front ++ json.print tokens) (c.in_ok-string.ensures.room.0 ∙ c.new-writer.ensures.before)
    (c.in_ok-string.ensures.ok ∙ ap (λ (tokens : List token.Token). tokens ++ token.string c.args.text.now ∷ []) c.new-writer.ensures.tokens)
    ∙ ap (λ (text : List ℕ). c.args.out.items ++ text) (one-string c.args.text.now)
