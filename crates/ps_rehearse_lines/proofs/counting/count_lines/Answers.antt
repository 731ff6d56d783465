use Rattle.std.proofs.Common.{◌+◌, ◌-◌, length, arith}
use Rattle.ps_rehearse_lines.proofs.Whole.{so-far-all, so-far-few, so-far-next, so-far-taken}
use Rattle.ps_rehearse_lines.proofs.counting.count_lines.Goals as goal

pub with_line-requires : goal.with_line-requires
with_line-requires c = so-far-few c.args.bytes.now c.lines.rest.now c.lines.counts (omega arith) c.lines.invariant

pub returns : goal.returns
returns c = record {
  counts = so-far-all c.args.bytes.now c.lines.rest.now c.lines.counts c.in_default.ensures.none c.lines.invariant;
  few = so-far-few c.args.bytes.now c.lines.rest.now c.lines.counts (omega arith) c.lines.invariant;
}

pub lines-preserved : goal.lines-preserved
lines-preserved c =
    let all = c.args.bytes.now in
    let rest = c.lines.rest.now in
    let i = c.in-Some.end in
    let found = c.in-Some.ensures.found in
    so-far-taken all rest i (length rest - (i + 1)) c.in_ok-counts.counts (omega arith)
    (so-far-next all rest i c.lines.counts c.in_ok-counts.counts found.0 found.1 c.in-Some.ensures.before c.in_ok-counts.ensures c.lines.invariant)

pub overflow_add-rest : goal.overflow_add-rest
overflow_add-rest c = let low = c.in-Some.ensures.found.0 in let left = c.lines.invariant.left in omega (arith, low, left)
