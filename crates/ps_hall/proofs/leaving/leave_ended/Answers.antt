use contract.BorrowLft.{⊑_static}
use Rattle.ps_hall_flush.proofs.Lives.{archive_lasts, home_lasts}
use Rattle.ps_hall.proofs.leaving.leave_ended.Goals as goal

pub leave-requires : goal.leave-requires
leave-requires g c κs within =
    let r = c.requires.1.1.1 in (
      home_lasts _ _ within.0,
      (
        archive_lasts _ _ _ within.1.0 within.1.1,
        (⊑_static _, record { twin = r.twin; held = r.held; stands = r.stands; own = r.own; few = r.few; firm = r.firm; mark = r.mark }),
      ),
    )
