use Rattle.std.proofs.Common.{List, ℕ, subst, ap, ◌∙◌, ◌∷◌, ◌++◌, []}
use Rattle.ps_rehearse.specs.Streams.{IsPort}
use Rattle.ps_rehearse.proofs.streams.ports.Goals as goal

pub returns : goal.returns
returns c = record {
  one = c.in_ok-first.first;
  two = c.in_ok-second.second;
  are =
      c.in_ok-push-2.ensures.items
      ∙ ap (λ l. l ++ c.in_ok-second.second ∷ []) (c.in_ok-push.ensures.items ∙ ap (λ l. l ++ c.in_ok-first.first ∷ []) c.new-ports.ensures.items);
  one_is = subst (λ (b : List ℕ). IsPort b c.in_ok-first.first) c.deref.ensures.value c.in_ok-first.ensures;
  two_is = subst (λ (b : List ℕ). IsPort b c.in_ok-second.second) c.deref-2.ensures.value c.in_ok-second.ensures;
}
