-- The wants follow the rows of the resources.
use Rattle.std.proofs.Common.{◌≡◌, ℕ, Bool, true, false, cond, List, [], Option, refl, ap, sym, subst, ◌∙◌}
use Rattle.std.specs.Prelude.{bytes_eq, OnOk, Result, Ok, Err}
use Rattle.std.specs.List.{list_any}
use Rattle.ps_base.specs.Rows.{without}
use Rattle.ps_types.specs.declared.jid.Jid.{Jid}
use Rattle.ps_types.specs.declared.request.Request.{Request}
use Rattle.ps_types.specs.declared.rows.ResourceRow.{ResourceRow}
use Rattle.ps_types.specs.Resources.{features_in, notify_feature, resource_at, wants}
use Rattle.ps_types.specs.Same.{same_jid}
use Rattle.ps_types.proofs.Same.{same_jid-Decides}
use Rattle.ps_filter.specs.declared.want.Want.{Want}
use Rattle.ps_filter.specs.Wants.{AreWants, SetsWants, asks_for, is_want_of, is_wanted}
use Rattle.ps_filter.proofs.Following.{wanted-without}
use Rattle.ps_core.specs.declared.half.Half.{Half}
use Rattle.ps_core.specs.declared.numbers.NumberChange.{NumberChange}
use Rattle.ps_core.specs.declared.service.Kept.{Kept}
use Rattle.ps_core.specs.declared.service.Stage.{Stage}
use Rattle.ps_core.specs.declared.service.Stage.TheVariants.{Prepared}
use Rattle.ps_core.specs.States.{Part, part_of}
use Rattle.ps_core.specs.Wants.{BackHasWants, DiffersAt, FollowsRequest, FollowsRow, HasWants, is_of_resource}
use Rattle.ps_core.proofs.Resources.{resources-differ, resources-stay}

pub on_ok : {T E A B : Type 0} (r : Result T E) → (A → B) → OnOk r A → OnOk r B
on_ok (Ok x) f h = f h
on_ok (Err e) f h = tt

-- a resource wants what its row says, and the others what they wanted
pub row-followed : (who : Jid) (o : Option ResourceRow) (features : List (List ℕ)) (old new : List Want) (after : List ResourceRow) → o ≡ resource_at who after → features ≡ features_in o
    → SetsWants who features old new
    → FollowsRow who after old new
row-followed who o features old new after is f sets = λ before differs are other name. sets other name ∙ by before differs are other name (same_jid who other) refl
  where
    by : (before : List ResourceRow) → DiffersAt who before after → AreWants old before → (other : Jid) (name : List ℕ) (b : Bool) → same_jid who other ≡ b
        → cond b (asks_for name features) (is_wanted other name old) ≡ wants other name after
    by before differs are other name true e =
        let s : who ≡ other = (same_jid-Decides who other).0 e in
        subst (λ j. asks_for name features ≡ wants j name after) s (ap (asks_for name) (f ∙ ap features_in is))
    by before differs are other name false e = are other name ∙ sym (ap (λ x. list_any (bytes_eq (notify_feature name)) (features_in x)) (differs other e))

-- one that is gone wants nothing
pub gone-sets : (who : Jid) (old new : List Want) → new ≡ without (is_want_of who) old → SetsWants who [] old new
gone-sets who old new e = λ other name. ap (is_wanted other name) e ∙ wanted-without (same_jid who) other name old

pub request-followed : (r : Request) (after : List ResourceRow) (old new : List Want) → is_of_resource r.ask ≡ true → FollowsRow r.from after old new → FollowsRequest r after old new
request-followed r after old new h follows = λ moment book e are.
    follows book.resources (subst (λ rows. DiffersAt r.from book.resources rows) (sym e) (resources-differ r moment book h)) are

pub request-stays : (r : Request) (after : List ResourceRow) (old new : List Want) → is_of_resource r.ask ≡ false → new ≡ old → FollowsRequest r after old new
request-stays r after old new h same = λ moment book e are.
    let stays : after ≡ book.resources = e ∙ resources-stay r moment book h in
    subst (λ wants. AreWants wants after) (sym same) (subst (λ rows. AreWants old rows) (sym stays) are)

-- ---- the two copies

pub copied-wants : (front back : Half) → part_of back ≡ part_of front → back.wants.rows ≡ front.wants.rows → HasWants front → HasWants back
copied-wants front back e w h =
    let p : back.tables.presence.rows ≡ front.tables.presence.rows = ap (λ (p : Part). p.book.resources) e in
    subst (λ rows. AreWants rows back.tables.presence.rows) (sym w) (subst (λ rows. AreWants front.wants.rows rows) (sym p) h)

-- of a prepared entry both copies have their wants
pub prepared-wants : (at : Stage) (kept : Kept) (numbers : NumberChange) (back : Half) → at ≡ Prepared kept numbers → BackHasWants at back → HasWants back
prepared-wants at kept numbers back is wants = subst (λ (s : Stage). BackHasWants s back) is wants
