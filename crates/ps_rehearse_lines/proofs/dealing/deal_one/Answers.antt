use Rattle.std.proofs.Common.{◌≡◌, ◌++◌, ◌∷◌, [], List, ℕ, ap, ◌∙◌, arith}
use Rattle.ps_types.specs.Print.{print}
use Rattle.ps_rehearse_lines.proofs.Places.{dealt-elsewhere, dealt-here, on-ok, second-host}
use Rattle.ps_rehearse_lines.proofs.dealing.deal_one.Goals as goal

pub returns-then-generated-eq0 : goal.returns-then-generated-eq0
returns-then-generated-eq0 c =
    let g = c.in_ok-generated.generated in
    let here = c.if-generated-eq0.true in
    let line : c.as_slice.result.now ≡ print g.tree = c.as_slice.ensures ∙ c.in_ok-line.ensures.line in
    on-ok c.add_line.result (λ grown. record {
      first =
          dealt-here 0 c.args.seed c.args.k c.args.dealt.now.first.items c.add_line.new.lines.items g c.in_ok-generated.ensures here c.in_ok-line.ensures.short
          (grown ∙ ap (λ (l : List ℕ). c.args.dealt.now.first.items ++ (l ++ 10 ∷ [])) line) c.requires.first;
      second = dealt-elsewhere 1 c.args.seed c.args.k c.args.dealt.now.second.items g c.in_ok-generated.ensures (λ e. absurd (omega (arith, here, e))) c.requires.second;
    }) c.add_line.ensures

pub returns : goal.returns
returns c =
    let g = c.in_ok-generated.generated in
    let not = c.if-generated-eq0.false in
    let here = second-host c.args.seed c.args.k g c.in_ok-generated.ensures not in
    let line : c.as_slice-else-generated-eq0.result.now ≡ print g.tree = c.as_slice-else-generated-eq0.ensures ∙ c.in_ok-line.ensures.line in
    on-ok c.add_line-else-generated-eq0.result (λ grown. record {
      first = dealt-elsewhere 0 c.args.seed c.args.k c.args.dealt.now.first.items g c.in_ok-generated.ensures not c.requires.first;
      second =
          dealt-here 1 c.args.seed c.args.k c.args.dealt.now.second.items c.add_line-else-generated-eq0.new.lines.items g c.in_ok-generated.ensures here c.in_ok-line.ensures.short
          (grown ∙ ap (λ (l : List ℕ). c.args.dealt.now.second.items ++ (l ++ 10 ∷ [])) line) c.requires.second;
    }) c.add_line-else-generated-eq0.ensures
