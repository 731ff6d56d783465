-- Addresses beside their printed form.
use Rattle.std.specs.Prelude.{◌≡◌, ℕ, List, map}
use Rattle.ps_model.specs.Sorted.{put_sorted}
use Rattle.ps_types.specs.Address.{jid_text}
use Rattle.ps_types.specs.declared.jid.Jid.{Jid}

abbrev pub printed : List Jid → List (List ℕ × Jid)
printed whos = map (λ who. (jid_text who, who)) whos

-- one more is put where it belongs
abbrev pub Puts : Jid → List (List ℕ × Jid) → List (List ℕ × Jid) → Type 0
Puts who old new = (whos : List Jid) → old ≡ printed whos → new ≡ printed (put_sorted who whos)
