use Rattle.std.proofs.Common.{◌≡◌, true}
use Rattle.ps_rehearse_lines.specs.Counted.{is_error, is_notice, is_result}
use Rattle.ps_rehearse.specs.Streams.{IsDone}
use Rattle.ps_rehearse.proofs.Pairs.{are-two, both-counted}
use Rattle.ps_rehearse.proofs.rehearsing.count_both.Goals as goal

pub returns : goal.returns
returns g c =
    let p = c.in_ok-one.ensures.counts in
    let q = c.in_ok-two.ensures.counts in
    record {
      one = c.one-item.result;
      two = c.two-item.result;
      are = are-two c.args.ended.now c.one-item.result c.two-item.result c.in-len2.len_at_least c.in-len2.len_below c.one-item.is c.two-item.is;
      one_done = c.is_done.ensures c.if-not-is_done.false;
      two_done = c.is_done-2.ensures c.if-not-is_done-2.false;
      results = both-counted is_result _ _ _ _ _ _ p.results q.results c.bytes.ensures c.bytes-2.ensures;
      errors = both-counted is_error _ _ _ _ _ _ p.errors q.errors c.bytes.ensures c.bytes-2.ensures;
      notices = both-counted is_notice _ _ _ _ _ _ p.notices q.notices c.bytes.ensures c.bytes-2.ensures;
    }
