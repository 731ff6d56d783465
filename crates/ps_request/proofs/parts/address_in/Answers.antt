use Rattle.std.proofs.Common.{ℕ, List, Err, subst}
use Rattle.ps_types.specs.Address.{Spells}
use Rattle.ps_types.specs.declared.jid.Jid.{Jid}
use Rattle.ps_request.proofs.Addresses.{jid-spelled, jid-none}
use Rattle.ps_request.proofs.parts.address_in.Goals as goal

pub returns-in-Ok : goal.returns-in-Ok
returns-in-Ok c = jid-spelled c.args.text.now c.in-Ok.who (subst (λ (l : List ℕ). Spells l c.in-Ok.who) c.as_bytes.ensures.value c.in-Ok.ensures.ok)

pub returns-in-Err-Malformed : goal.returns-in-Err-Malformed
returns-in-Err-Malformed c =
    jid-none c.args.text.now
    (subst (λ (l : List ℕ). (j : Jid) → Spells l j → ⊥) c.as_bytes.ensures.value (c.in-Err-Malformed.ensures.malformed (λ i. Err (c.in-Err-Malformed.field-0-is i))))
