use Rattle.std.proofs.Common.{◌∙◌, subst}
use Rattle.ps_io.specs.Held.{IsHeld}
use Rattle.ps_endpoints.proofs.Back.{returned, held-same}
use Rattle.ps_endpoints.proofs.port.open_lines.Goals as goal

pub returns-in-Err-clause-refused : goal.returns-in-Err-clause-refused
returns-in-Err-clause-refused g c =
    let w = g.W.World in
    let r = g.W.Reading.Source in
    let name = c.args.stream.now.source in
    let back = subst (λ (s : g.row.W-Reading.Denot). IsHeld (w.sources c.give_back.new.self name) (r.faults s) (r.left s)) c.in-Err.ensures.err c.give_back.ensures.held in
    returned name (w.sources c.args.world.now) (w.sources c.give_back.new.self)
    (λ n differ. c.give_back.ensures.sources n differ ∙ c.in_ok-source.ensures.sources n differ)
    (held-same _ _ _ _ c.in_ok-source.ensures.object back)

pub returns-in-Err-clause-asked : goal.returns-in-Err-clause-asked
returns-in-Err-clause-asked g c = (1, c.give_back.ensures.asked ∙ c.in_ok-source.ensures.asked)
