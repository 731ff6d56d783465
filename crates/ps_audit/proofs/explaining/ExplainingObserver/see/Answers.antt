use Rattle.std.proofs.Common.{◌≡◌, List, [], ◌∷◌, ◌++◌, sym, ap, subst, ◌∙◌}
use Rattle.std.proofs.lemmas.Bool.{true≢false}
use Rattle.ps_model.specs.Book.{Book}
use Rattle.ps_audit_laws.specs.declared.told.ExplainLine.{ExplainLine}
use Rattle.ps_audit_laws.specs.Verdicts.{four_at}
use Rattle.ps_audit.specs.Told.{IsTold, TellsOn}
use Rattle.ps_audit.specs.declared.explaining.Explaining.{Explaining}
use Rattle.ps_audit.proofs.Seen.{told-more, told-quiet}
use Rattle.ps_audit.proofs.explaining.ExplainingObserver.see.Goals as goal
use Rattle.ps_audit.proofs.explaining.ExplainingObserver.see.Goals.{then-not-stay+in_ok-push, else-not-stay}

pub returns : goal.returns
returns c = record {
  saw = λ start E tells each is. (
      let before = c.args.self.now in
      let e = c.args._entry in
      let state = c.args.service.now.state in
      let who = before.who.now in
      let node = before.node.now in
      let four = c.four_verdicts-four.result in
      let asked : four ≡ four_at state.book node who = c.four_verdicts-four.ensures ∙ ap (λ (b : Book). four_at b node who) c.tables.ensures.book in
      elim c.if-not-stay.branch [
        | then-not-stay+in_ok-push w ↦
            let differs : (four ≡ before.last → ⊥) = λ same. true≢false (sym (c.stay.ensures.1 same) ∙ w.if-not-stay.true) in
            let told = told-more E who node before.last before.lines.items tells.told e state is four asked differs w.count-after.result w.count-after.ensures.count in
            let pushed = subst (λ (ls : List ExplainLine). IsTold (E ++ e ∷ []) who node four ls) (sym w.in_ok-push.ensures.items) told in
            subst (λ (s : Explaining). TellsOn start s (E ++ e ∷ [])) (sym w.self-is) (record { who_is = tells.who_is; node_is = tells.node_is; told = pushed })
        | else-not-stay w ↦
            let same : four ≡ before.last = c.stay.ensures.0 w.if-not-stay.false in
            let told = told-quiet E who node before.last before.lines.items tells.told e state is four asked same in
            subst (λ (s : Explaining). TellsOn start s (E ++ e ∷ [])) (sym w.self-is) (record { who_is = tells.who_is; node_is = tells.node_is; told = told })
      ]);
}
