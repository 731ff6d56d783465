-- A source that was opened in a world, mirrored, and given back; and then a report.
use Rattle.std.proofs.Common.{◌≡◌, inl, inr, ℕ, List, Option, sym, ap, subst}
use Rattle.std.specs.Prelude.{Result, Ok, Err}
use Rattle.ps_types.specs.declared.jid.Jid.{Jid}
use Rattle.ps_types.specs.declared.node.NodeKey.{NodeKey}
use Rattle.ps_wire.specs.declared.lines.NextLineRefusal.{NextLineRefusal}
use Rattle.ps_wire.specs.declared.lines.NextLineRefusal.TheVariants as lines
use Rattle.ps_io.specs.Held.{Held, IsHeld, Same, SameLefts}
use Rattle.ps_commands.specs.declared.command.MirrorWords.{MirrorWords}
use Rattle.ps_mirror.specs.Report.{RanMirror}
use Rattle.ps_status.specs.Outside.{Outside, SameStreams}
use Rattle.ps_status.specs.declared.status.Status.{Status}
use Rattle.ps_status.specs.declared.status.Status.TheVariants.{OpenFault, Usage}
use Rattle.ps_status.proofs.Moved.{refused-told}
use Rattle.ps_mirror_command.specs.Mirroring.{Mirrors, came_by}

-- of a source by what is held under its name
pub ran-held : (node : NodeKey) (who : Jid) (most : ℕ) (h k : Held) (f g : ℕ) (b d : Option (List ℕ)) (o : Result (List (List ℕ)) NextLineRefusal) → IsHeld h f b → IsHeld k g d
    → RanMirror node who most b d f g o → RanMirror node who most h.bytes k.bytes h.faults k.faults o
ran-held node who most h k f g b d o was is ran =
    subst (λ (x : Option (List ℕ)). RanMirror node who most x k.bytes h.faults k.faults o) was.same_bytes
    (subst (λ (x : Option (List ℕ)). RanMirror node who most b x h.faults k.faults o) is.same_bytes
    (subst (λ (x : ℕ). RanMirror node who most b d x k.faults o) was.same_faults
    (subst (λ (x : ℕ). RanMirror node who most b d f x o) is.same_faults ran)))

-- its end is none of these
pub never-usage : (o : Result (List (List ℕ)) NextLineRefusal) → came_by o ≡ Err Usage → ⊥
never-usage (Ok told) e = absurd (cc e)
never-usage (Err lines.ReadFault) e = absurd (cc e)
never-usage (Err lines.Long) e = absurd (cc e)
never-usage (Err lines.Memory) e = absurd (cc e)

pub never-open : (o : Result (List (List ℕ)) NextLineRefusal) → came_by o ≡ Err OpenFault → ⊥
never-open (Ok told) e = absurd (cc e)
never-open (Err lines.ReadFault) e = absurd (cc e)
never-open (Err lines.Long) e = absurd (cc e)
never-open (Err lines.Memory) e = absurd (cc e)

module _ (old new new1 : Outside) (lefts lefts_now lefts_told : List ℕ → ℕ → List ℕ → Type 0) (after : SameStreams new new1)
    (stores : Same new.stores new1.stores) (same_lefts : SameLefts lefts_now lefts_told) where
  pub mirrors-told : (w : MirrorWords) (came : Result (List (List ℕ)) Status) → Mirrors w old new lefts lefts_now came → Mirrors w old new1 lefts lefts_told came
  mirrors-told w came (inl not) = inl (refused-told old new new1 lefts lefts_now lefts_told after stores same_lefts came not)
  mirrors-told w came (inr ran) = inr (record {
    outcome = ran.outcome;
    is = ran.is;
    ran = subst (λ (h : Held). RanMirror w.node w.who w.most (old.sources w.source).bytes h.bytes (old.sources w.source).faults h.faults ran.outcome)
        (sym (after.same_sources w.source)) ran.ran;
  })
