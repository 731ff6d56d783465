use Rattle.ps_mirror_laws.proofs.Short.{notices-are-brief}
use Rattle.ps_mirror_laws.proofs.laws.each_notice_is_brief.Goals as goal

pub returns : goal.returns
returns c = notices-are-brief
