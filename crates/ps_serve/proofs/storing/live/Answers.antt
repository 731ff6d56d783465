use Rattle.std.proofs.Common.{inl, inr, refl, ap, ◌∙◌}
use Rattle.ps_hall_store.specs.Stand.{disk_in}
use Rattle.ps_serve.specs.Ends.{worst_in}
use Rattle.ps_serve.proofs.storing.live.Goals as goal

pub returns-in_default : goal.returns-in_default
returns-in_default g c = inr (record { same = refl; status = refl; disk = c.close.ensures.disk })

pub returns-in-Err : goal.returns-in-Err
returns-in-Err g c =
    inr (record { same = refl; status = refl; disk = c.close-in-Err.ensures.disk ∙ ap disk_in c.in-Err.ensures.refused.1 })

pub returns-in-Ok-new : goal.returns-in-Ok-new
returns-in-Ok-new g c =
    let told = c.status_of-status.ensures in
    inl (record {
      state = c.serve-store.result.0;
      store = c.serve-store.result.1;
      ended = c.serve-store.result.2.items;
      size = c.serve-store.ensures.size;
      back = c.ports_of.ensures;
      serves = c.serve-store.ensures.serves;
      ends = record {
        broken = told.broken;
        streams = λ none. told.streams none ∙ ap (λ l. worst_in (λ e. e.read) (λ e. e.wrote) l) c.deref.ensures.value;
      };
      closed = record { is = c.close-in-Ok-new.ensures.disk; long = c.close-in-Ok-new.ensures.long };
    })
