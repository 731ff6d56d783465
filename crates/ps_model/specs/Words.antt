-- The words by which affiliations, subscriptions and roster items are named in requests and replies (XEP-0060 §4.1, §4.2; RFC 6121 §2.1.2).
use Rattle.std.specs.Prelude.{ℕ, List, [], ◌∷◌, Option, Some, codes}
use Rattle.ps_types.specs.declared.rows.Affil.{Affil}
use Rattle.ps_types.specs.declared.rows.Affil.TheVariants as affil
use Rattle.ps_types.specs.declared.rows.RosterState.{RosterState}
use Rattle.ps_types.specs.declared.rows.RosterState.TheVariants as roster
use Rattle.ps_types.specs.declared.rows.SubState.{SubState}
use Rattle.ps_types.specs.declared.rows.SubState.TheVariants as sub
use Rattle.ps_types.specs.Values.{choice_of}

abbrev pub affil_choices : List (List ℕ × Affil)
affil_choices = (codes "owner", affil.Owner) ∷ (codes "publisher", affil.Publisher) ∷ (codes "publish-only", affil.PublishOnly) ∷ (codes "member", affil.Member) ∷ (codes "outcast", affil.Outcast) ∷ (codes "none", affil.Nothing) ∷ []

abbrev pub affil_of : List ℕ → Option Affil
affil_of text = choice_of affil_choices text

abbrev pub affil_text : Affil → List ℕ
affil_text affil.Owner = codes "owner"
affil_text affil.Publisher = codes "publisher"
affil_text affil.PublishOnly = codes "publish-only"
affil_text affil.Member = codes "member"
affil_text affil.Outcast = codes "outcast"
affil_text affil.Nothing = codes "none"

abbrev pub sub_choices : List (List ℕ × SubState)
sub_choices = (codes "none", sub.Nothing) ∷ (codes "pending", sub.Pending) ∷ (codes "subscribed", sub.Subscribed) ∷ []

abbrev pub sub_of : List ℕ → Option SubState
sub_of text = choice_of sub_choices text

abbrev pub sub_text : SubState → List ℕ
sub_text sub.Nothing = codes "none"
sub_text sub.Pending = codes "pending"
sub_text sub.Subscribed = codes "subscribed"

-- what a roster item asks: to set a state, or to remove
pub data RosterAsk : Type 0 where
  set : RosterState → RosterAsk
  remove : RosterAsk

abbrev pub roster_choices : List (List ℕ × RosterAsk)
roster_choices = (codes "none", set roster.Nothing) ∷ (codes "to", set roster.To) ∷ (codes "from", set roster.From) ∷ (codes "both", set roster.Both) ∷ (codes "remove", remove) ∷ []

-- a missing subscription is none
abbrev pub roster_of : List ℕ → Option RosterAsk
roster_of [] = Some (set roster.Nothing)
roster_of (x ∷ text) = choice_of roster_choices (x ∷ text)
