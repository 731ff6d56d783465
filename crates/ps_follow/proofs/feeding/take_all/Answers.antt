use Rattle.std.proofs.Common.{ℕ, List, drop, subst}
use Rattle.ps_types.specs.declared.entry.Entry.{Entry}
use Rattle.ps_follow.specs.Feeding.{EndsAs, TookOne}
use Rattle.ps_follow.specs.Following.{Stands}
use Rattle.ps_follow.proofs.Walks.{going-on, rest-is, size-within}
use Rattle.ps_follow.proofs.feeding.take_all.Goals as goal

pub loop-from-preserved : goal.loop-from-preserved
loop-from-preserved g c =
    let w = c.loop-from.invariant in
    let state = c.loop-from.service.state in
    let later = c.take_next.new.service.state in
    let log = c.loop-from.log.items in
    let more = c.take_next.new.log.items in
    let bytes = c.args.bytes.now in
    let from = c.loop-from.from in
    let size = c.in-Ok.size in
    let E = c.requires.stands.0 in
    let took : (F : List Entry) → Stands state log F → TookOne F (drop from bytes) later more size =
    λ F is. subst (λ (rest : List ℕ). TookOne F rest later more size) (rest-is bytes from) (c.in-Ok.ensures.one F is) in
    let first = w.going E c.requires.stands.1 in
    record {
      within = (size-within first.entries bytes from size later more (took first.entries first.stands) w.within).0;
      going = λ E is. let h = w.going E is in going-on E bytes from size state later log more h (took h.entries h.stands);
    }

pub returns-in-Err-clause-went : goal.returns-in-Err-clause-went
returns-in-Err-clause-went g c = λ E is.
    let h = c.loop-from.invariant.going E is in
    let s = c.in-Err.ensures.stopped h.entries h.stands in
    record { entries = h.entries; goes = h.goes; stands = s.stands; ends = subst (λ (rest : List ℕ). EndsAs h.entries rest c.in-Err.why) (rest-is c.args.bytes.now c.loop-from.from) s.ends }
