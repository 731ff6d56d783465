use Rattle.std.proofs.Common.{take}
use Rattle.ps_types.specs.Lines.{NoNewline}
use Rattle.ps_rehearse_lines.proofs.counting.find_newline.Given as goal

abbrev pub invariant-loop-i : goal.invariant-loop-i
invariant-loop-i l = NoNewline (take l.i l.bytes)
