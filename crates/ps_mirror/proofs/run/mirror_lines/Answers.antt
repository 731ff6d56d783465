use Rattle.std.proofs.Common.{◌∙◌, ap, subst, rules, List, ℕ}
use Rattle.std.specs.Prelude.{Option}
use Rattle.ps_wire.specs.Reading.{given_of, rest_of, source_of}
use Rattle.ps_mirror.specs.Filled.{IsReadWhole}
use Rattle.ps_mirror.specs.Report.{reported_lines}
use Rattle.ps_mirror.proofs.Running.{gave-all, report-is}
use Rattle.ps_mirror.proofs.run.mirror_lines.Goals as goal

pub returns-in_err-take_lines-clause-ran : goal.returns-in_err-take_lines-clause-ran
returns-in_err-take_lines-clause-ran g c = record {
  given = given_of c.take_lines.new.lines;
  gave =
      gave-all (g.S.Source.left (source_of c.args.lines.now)) (g.S.Source.left (source_of c.take_lines.new.lines)) (given_of c.args.lines.now) (given_of c.take_lines.new.lines)
      c.requires.fresh.given_none c.take_lines.ensures.gave;
  report = search rules;
  whole = search rules;
  later = c.take_lines.ensures.later;
  fault = search rules;
  long = search rules;
}

pub returns-in_err-report_of-clause-ran : goal.returns-in_err-report_of-clause-ran
returns-in_err-report_of-clause-ran g c = record {
  given = given_of c.take_lines.new.lines;
  gave =
      gave-all (g.S.Source.left (source_of c.args.lines.now)) (g.S.Source.left (source_of c.take_lines.new.lines)) (given_of c.args.lines.now) (given_of c.take_lines.new.lines)
      c.requires.fresh.given_none c.take_lines.ensures.gave;
  report = search rules;
  whole = search rules;
  later = c.take_lines.ensures.later;
  fault = search rules;
  long = search rules;
}

pub returns-clause-ran : goal.returns-clause-ran
returns-clause-ran g c = record {
  given = given_of c.take_lines.new.lines;
  gave =
      gave-all (g.S.Source.left (source_of c.args.lines.now)) (g.S.Source.left (source_of c.take_lines.new.lines)) (given_of c.args.lines.now) (given_of c.take_lines.new.lines)
      c.requires.fresh.given_none c.take_lines.ensures.gave;
  report =
      report-is c.args.service.now c.args.node.now c.args.who.now c.args.max (g.S.Source.left (source_of c.args.lines.now)) (rest_of c.args.lines.now)
      c.in_ok-mirror.mirror c.take_lines.new.mirror c.in_ok-report_of.field-0
      c.requires.fresh.before c.in_ok-mirror.ensures.empty c.in_ok-take_lines.ensures.taken (c.in_ok-report_of.ensures ∙ ap reported_lines c.items.ensures);
  whole = subst (λ (o : Option (List ℕ)). IsReadWhole o (g.S.Source.left (source_of c.take_lines.new.lines))) c.requires.fresh.before c.in_ok-take_lines.ensures.whole;
  later = c.take_lines.ensures.later;
  fault = search rules;
  long = search rules;
}
