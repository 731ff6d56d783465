use Rattle.std.proofs.Common.{refl, sym, ◌∙◌}
use Rattle.ps_hall_open.proofs.opening.made_of.Goals as goal

pub returns-clause-made : goal.returns-clause-made
returns-clause-made g c = record {
  service = refl;
  queues = refl;
  held = refl;
  rows_are = refl;
  batch = refl;
  count = c.count-count.ensures.count;
  length_is = c.length-length.ensures.value;
  broken = refl;
  steps = refl;
  flushed = refl;
  durable_is = refl;
  limits_are = refl;
  disk = c.new.ensures.disk;
  mark = c.new.ensures.mark ∙ (λ j. (c.count-count.result, sym c.length-length.ensures.value j));
  firm = c.new.ensures.firm;
  stands = c.new.ensures.stands;
}
