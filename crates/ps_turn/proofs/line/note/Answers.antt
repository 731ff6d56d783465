use Rattle.std.proofs.Common.{bit_or}
use Rattle.ps_turn.proofs.line.note.Goals as goal

pub fetch_or-requires : goal.fetch_or-requires
fetch_or-requires g c = (c.requires.table, c.requires.words, c.requires.rings.ring (λ n. bit_or n c.args.who))
