use Rattle.std.proofs.Common.{◌≡◌, ℕ, List, Err, Some, subst, sym, ◌∙◌}
use Rattle.ps_types.specs.Address.{Spells}
use Rattle.ps_types.specs.declared.jid.Jid.{Jid}
use Rattle.ps_args.proofs.Spelled.{none-spelled, spelled-jid}
use Rattle.ps_args.proofs.addresses.read_address.Goals as goal

pub returns-in-Ok-clause-ok : goal.returns-in-Ok-clause-ok
returns-in-Ok-clause-ok c =
    let j = c.in-Ok.address in
    let s = subst (λ (l : List ℕ). Spells l j) (c.as_bytes.ensures.value ∙ c.as_str.ensures.value) c.in-Ok.ensures.ok in
    sym (spelled-jid c.args.word.now j s)

pub returns-in-Err-Malformed-clause-usage : goal.returns-in-Err-Malformed-clause-usage
returns-in-Err-Malformed-clause-usage c =
    λ e. none-spelled c.args.word.now
    (subst (λ (l : List ℕ). (j : Jid) → Spells l j → ⊥) (c.as_bytes.ensures.value ∙ c.as_str.ensures.value)
    (c.in-Err-Malformed.ensures.malformed (λ i. Err (c.in-Err-Malformed.field-0-is i))))
