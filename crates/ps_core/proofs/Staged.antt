-- The copies after they changed places.
use Rattle.std.proofs.Common.{◌≡◌, ◌<◌, ℕ, ◌+◌, true, ap, sym, subst, ◌∙◌}
use Rattle.std.specs.Prelude.{◌^◌}
use Rattle.ps_base.specs.Rows.{Table}
use Rattle.ps_types.specs.declared.rows.TallyRow.{TallyRow}
use Rattle.ps_model.specs.After.{after}
use Rattle.ps_book_laws.specs.Addressed.{IsTimely}
use Rattle.ps_core.specs.Counted.{AreFewMade, Holds}
use Rattle.ps_core.specs.Numbers.{numbers_after}
use Rattle.ps_core.specs.Stages.{AreNumbers, Follows, IsBack, StageIsKept, IsStage}
use Rattle.ps_core.specs.Requests.{IsRequestOf}
use Rattle.ps_core.specs.States.{Part, fits_book, part_after, state_with}
use Rattle.ps_core.specs.declared.numbers.NumberChange.{NumberChange}
use Rattle.ps_core.specs.declared.service.Kept.{Kept}
use Rattle.ps_core.specs.declared.service.Stage.{Stage}
use Rattle.ps_core.specs.declared.service.Stage.TheVariants.{Even, Prepared, Behind, Stale}
use Rattle.ps_core.proofs.Holding.{holds-after}

pub back-staged : (stage : Stage) (front back : Part) (tallies : Table TallyRow) → IsStage stage front back tallies → IsBack stage front back
back-staged Even front back tallies is = is
back-staged (Prepared kept numbers) front back tallies is = tt
back-staged (Behind kept) front back tallies is = is
back-staged Stale front back tallies is = tt

module _ (front back : Part) (kept : Kept) (numbers : NumberChange) (before now : Table TallyRow) (follows : Follows front kept back) (are : AreNumbers front before kept.entry numbers)
    (done : now.rows ≡ numbers_after numbers before.rows) where
  pub committed-kept : StageIsKept (Behind kept) back front now
  committed-kept = record {
    holds = subst Holds (sym follows.is_after) (holds-after front kept.entry follows.is_accepted follows.is_timely follows.holds);
    few =
        subst (λ (n : ℕ). AreFewMade n now.rows) (sym (ap (λ (p : Part). p.count) follows.is_after))
        (subst (AreFewMade (front.count + 1)) (sym done) are.few);
    staged = follows;
  }

  pub committed-state : state_with back now.rows ≡ after (state_with front before.rows) kept.entry
  committed-state = λ i. record {
    book = (follows.is_after i).book;
    count = (follows.is_after i).count;
    tallies = (done ∙ sym are.is_after) i;
    lines = (follows.is_after i).lines;
  }

-- an entry that is accepted here, and that the second copy has taken
pub follows-now : (front back new : Part) (kept : Kept) → back ≡ front → fits_book front.book kept.entry ≡ true → front.count < 2 ^ 62 → IsTimely kept.entry → Holds front
    → IsRequestOf back.book.service kept.entry kept.request → new ≡ part_after back kept.entry → Follows front kept new
follows-now front back new kept even fits few timely holds asked after = record {
  is_accepted = fits;
  few = few;
  is_timely = timely;
  holds = holds;
  is_requested = subst (λ (p : Part). IsRequestOf p.book.service kept.entry kept.request) even asked;
  is_after = after ∙ ap (λ (p : Part). part_after p kept.entry) even;
}
