use Rattle.ps_secrecy.proofs.Secret.{line-secret, no-reply, pair-secret, reply-secret}
use Rattle.ps_secrecy.proofs.laws.each_line_is_secret.Goals as goal

pub returns-clause-reply : goal.returns-clause-reply
returns-clause-reply c = λ S a s t h host line one. reply-secret S a s t h host line one

pub returns-clause-line : goal.returns-clause-line
returns-clause-line c = λ S a s t h host line line2 one shut shut2. line-secret S a s t h host line line2 one shut shut2

pub returns-clause-pair : goal.returns-clause-pair
returns-clause-pair c = λ S a s t h host node line line2 one two p q shut shut2.
    (pair-secret S a s t h host node line line2 one two p q shut shut2, no-reply S a s host node line one p, no-reply S a t host node line2 two q)
