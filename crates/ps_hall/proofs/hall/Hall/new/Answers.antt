use Rattle.std.proofs.Common.{◌≡◌, ◌+◌, [], length, ap, sym, ◌∙◌, subst, arith}
use Rattle.ps_twin.specs.Seats.{seats_of}
use Rattle.ps_hall_state.specs.declared.state.State.{State}
use Rattle.ps_hall_flush.specs.Homes.{ArchiveHolds, HomeStands, state_mark, store_mark}
use Rattle.ps_hall.proofs.Starting.{no_deeds, one_mark}
use Rattle.ps_hall.proofs.hall.Hall.new.Goals as goal

pub new-requires-3-clause-both : goal.new-requires-3-clause-both
new-requires-3-clause-both g c =
    let o = g.B.Opening.origin in
    let home : HomeStands o c.args.state [] = no_deeds o c.args.state c.args.store c.args.hosts.now c.requires in
    record {
      empty = subst (λ (v : State). HomeStands o v []) (sym c.new.ensures) home;
      journal_empty = subst (λ y. ArchiveHolds o y []) (sym c.new-2.ensures) (record { stands = c.requires.archive; within = record { firm = tt; begun = tt } });
      firm = ap (λ (v : State). v.flushed) c.new.ensures ∙ c.requires.flushed;
      mark = ap (λ (v : State). state_mark v) c.new.ensures ∙ (one_mark o c.args.state c.args.store c.args.hosts.now c.requires ∙ sym (ap (λ y. store_mark y) c.new-2.ensures));
    }

pub invariant_of-hall : goal.invariant_of-hall
invariant_of-hall g c =
    let all = c.in-Ok-new.ensures.seats.all in
    let count = c.in-Ok-new.ensures.count in
    let same : length g.B.Opening.origin.hosts ≡ length c.args.hosts.now = ap length c.requires.hosts_are in
    let few = c.requires.few in
    let two : seats_of c.in-Ok-new.twin ≡ length g.B.Opening.origin.hosts + length g.B.Opening.origin.hosts = omega (arith, all, count, same, few) in
    record { two = two }
