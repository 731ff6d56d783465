use Rattle.std.proofs.Common.{◌≡◌, List, sym, subst}
use Rattle.ps_types.specs.declared.rows.TallyRow.{TallyRow}
use Rattle.ps_types.specs.declared.entry.Notice.{Notice}
use Rattle.ps_core.specs.Numbers.{Fit, IsCountOf}
use Rattle.ps_core.specs.Stages.{AreNumbers}
use Rattle.ps_core.specs.States.{part_of}
use Rattle.ps_core.proofs.Tallied.{counted-few, counted-fit, counted-is}
use Rattle.ps_core.proofs.Taken.{fits_held}
use Rattle.ps_core.proofs.service.told_and_counted.Goals as goal

pub numbers_of-requires : goal.numbers_of-requires
numbers_of-requires g c = record { held = fits_held (part_of c.args.front.now).book c.args.kept.now.entry c.requires.follows.is_accepted }

pub returns-clause-staged : goal.returns-clause-staged
returns-clause-staged g c =
    let p = part_of c.args.front.now in
    let e = c.args.kept.now.entry in
    let ns = c.in_ok-notices.notices.items in
    let numbers = c.in_ok-numbers.numbers in
    let old = c.args.tallies.now.rows in
    let same : c.reserve_for.new.tallies.rows ≡ old = c.reserve_for.ensures.rows in
    let count : IsCountOf e ns numbers = subst (λ (xs : List Notice). IsCountOf e xs numbers) c.as_slice.ensures.value c.in_ok-numbers.ensures in
    let follows = c.requires.follows in
    let fit : Fit numbers old = counted-fit p old e ns numbers c.requires.accepted follows.is_accepted follows.few c.requires.few count in (
      follows,
      subst (λ (rows : List TallyRow). AreNumbers p (record { rows = rows; spare = c.reserve_for.new.tallies.spare }) e numbers) (sym same)
          (record {
            is_after = counted-is p old e ns numbers follows.is_accepted c.in_ok-notices.ensures count;
            room = c.in_ok-reserve_for.ensures.room;
            fit = fit;
            few = counted-few p.count old numbers fit c.requires.few;
          }),
    )
