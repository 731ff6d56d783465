use Rattle.std.proofs.Common.{ℕ, List, Option, ◌++◌, ap, sym, append_assoc, ◌∙◌}
use Rattle.std.specs.Prelude.{codes}
use Rattle.json.specs.Print.{quoted}
use Rattle.ps_drafts.specs.Parts as parts
use Rattle.ps_drafts.proofs.draft.with_rest.Goals as goal

pub returns : goal.returns
returns c =
    let line = c.args.line.items in
    let name = c.in-Some.name in
    let begin = codes ",{\"c\":[{\"a\":{\"name\":\"Collection\"},\"c\":[" in
    let end = codes "],\"n\":\"header\"}],\"n\":\"headers\",\"ns\":\"http://jabber.org/protocol/shim\"}],\"n\":\"message\"}" in
    c.in_ok-extend_from_slice-3.ensures.items
    ∙ ap (λ (z : List ℕ). z ++ end) (c.in_ok-line.ensures ∙ ap (λ (z : List ℕ). z ++ quoted c.as_str.result.now) c.in_ok-extend_from_slice-2.ensures.items)
    ∙ ap (λ (z : List ℕ). ((line ++ begin) ++ quoted z) ++ end) c.as_str.ensures.value
    ∙ append_assoc (line ++ begin) (quoted name) end ∙ append_assoc line begin (quoted name ++ end)
    ∙ ap (λ (o : Option (List ℕ)). line ++ parts.rest_of o) (sym c.in-Some.is)
