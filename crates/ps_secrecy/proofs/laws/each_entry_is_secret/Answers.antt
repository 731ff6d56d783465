use Rattle.ps_secrecy.proofs.EntryLaws.{entry-secret}
use Rattle.ps_secrecy.proofs.laws.each_entry_is_secret.Goals as goal

pub returns : goal.returns
returns c = λ S a s t h e above above2 shut shut2. entry-secret S a s t h e above above2 shut shut2
