-- A list that goes on.
use Rattle.std.proofs.Common.{◌≡◌, true, List, [], ◌∷◌, ◌++◌, refl, sym, ap, ◌∙◌, append_assoc}
use Rattle.ps_types.specs.declared.entry.Entry.{Entry}
use Rattle.ps_types.specs.declared.jid.Jid.{Jid}
use Rattle.ps_model.specs.After as step
use Rattle.ps_model.specs.Book.{State}
use Rattle.ps_model.specs.Replay.{IsLawfulFrom, accepted, notices_from, replay_from, to_address}

pub replay-append : (E F : List Entry) (s : State) → replay_from s (E ++ F) ≡ replay_from (replay_from s E) F
replay-append [] F s = refl
replay-append (e ∷ E) F s = replay-append E F (step.after s e)

pub notices-append : (E F : List Entry) (s : State) (a : Jid) → notices_from s (E ++ F) a ≡ notices_from s E a ++ notices_from (replay_from s E) F a
notices-append [] F s a = refl
notices-append (e ∷ E) F s a =
    ap (λ ns. to_address a (step.notices_at s e) ++ ns) (notices-append E F (step.after s e) a)
    ∙ sym (append_assoc (to_address a (step.notices_at s e)) (notices_from (step.after s e) E a) (notices_from (replay_from (step.after s e) E) F a))

pub lawful-front : (E F : List Entry) (s : State) → IsLawfulFrom s (E ++ F) → IsLawfulFrom s E
lawful-front [] F s is = tt
lawful-front (e ∷ E) F s is = (is.0, lawful-front E F (step.after s e) is.1)

pub lawful-more : (E : List Entry) (e : Entry) (s : State) → IsLawfulFrom s E → accepted (replay_from s E) e ≡ true → IsLawfulFrom s (E ++ e ∷ [])
lawful-more [] e s is ok = (ok, tt)
lawful-more (x ∷ E) e s is ok = (is.0, lawful-more E e (step.after s x) is.1 ok)
