use Rattle.std.proofs.Common.{ℕ, List, Err, subst, ◌∙◌}
use Rattle.ps_types.specs.Address.{Spells}
use Rattle.ps_types.specs.Shape.{attr_text}
use Rattle.ps_types.specs.declared.jid.Jid.{Jid}
use Rattle.ps_compact_codec.proofs.Addresses.{jid-none}
use Rattle.ps_compact_codec.proofs.parts.jid_at.Goals as goal
use Rattle.ps_model.proofs.Spelling.{spells-jid}

pub returns-in-Ok : goal.returns-in-Ok
returns-in-Ok c =
    spells-jid (attr_text c.args.name.now c.args.tree.now) c.in-Ok.who
    (subst (λ (l : List ℕ). Spells l c.in-Ok.who) (c.as_bytes.ensures.value ∙ c.attr.ensures) c.in-Ok.ensures.ok)

pub returns-in-Err-Malformed : goal.returns-in-Err-Malformed
returns-in-Err-Malformed c =
    jid-none (attr_text c.args.name.now c.args.tree.now)
    (subst (λ (l : List ℕ). (j : Jid) → Spells l j → ⊥) (c.as_bytes.ensures.value ∙ c.attr.ensures)
    (c.in-Err-Malformed.ensures.malformed (λ i. Err (c.in-Err-Malformed.field-0-is i))))
