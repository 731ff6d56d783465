use Rattle.ps_rehearse_laws.proofs.Owned.{log-grows, words-own}
use Rattle.ps_rehearse_laws.proofs.laws.each_log_is_of_its_hosts.Goals as goal

pub returns-clause-entries : goal.returns-clause-entries
returns-clause-entries c = λ boot list hosts log owned. log-grows boot list hosts log owned

pub returns-clause-words : goal.returns-clause-words
returns-clause-words c = λ boot list log h. words-own boot list log h
