use Rattle.ps_presence.proofs.Keys.{ver_of}
use Rattle.ps_presence.proofs.cache.row_among.Goals as goal

pub find-requires : goal.find-requires
find-requires c = record { asks = ver_of c.args.ver.now }
