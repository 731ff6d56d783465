use Rattle.std.proofs.Common.{inl, inr, sym, ◌∙◌}
use Rattle.ps_hall_state.proofs.Calling.{no_reply, reads_is}
use Rattle.ps_hall_state.proofs.Telling.{in_flight, no_notice, none_in_flight}
use Rattle.ps_hall_state.proofs.state.State.none_now.Goals as goal

pub returns-then-some_reads : goal.returns-then-some_reads
returns-then-some_reads c = record {
  is = λ row was service some w is. (
      let v = c.args.self.now in (
        no_reply v w c.args.at row is was (c.requires.waits row was),
        inr (no_notice v w c.args.at row is was (c.requires.none row was), inl (sym (reads_is v w is) ∙ (sym c.some_reads.ensures ∙ c.if-some_reads.true))),
        is,
      ));
}

pub returns-then-holds_at : goal.returns-then-holds_at
returns-then-holds_at c = record {
  is = λ row was service some w is. (
      let v = c.args.self.now in (
        no_reply v w c.args.at row is was (c.requires.waits row was),
        inr (no_notice v w c.args.at row is was (c.requires.none row was), inr (in_flight v w c.args.at row is was (sym (c.holds_at.ensures row was) ∙ c.if-holds_at.true))),
        is,
      ));
}

pub returns : goal.returns
returns c = record {
  is = λ row was service some w is. (
      let v = c.args.self.now in (
        no_reply v w c.args.at row is was (c.requires.waits row was),
        no_notice v w c.args.at row is was (c.requires.none row was),
        none_in_flight v w c.args.at row is was (c.requires.landed row was) (sym (c.holds_at.ensures row was) ∙ c.if-holds_at.false),
        sym (reads_is v w is) ∙ (sym c.some_reads.ensures ∙ c.if-some_reads.false),
        is,
      ));
}
