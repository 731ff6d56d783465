use Rattle.ps_access.specs.Tables.{book_of}
use Rattle.ps_core.proofs.Requests.{request_made}
use Rattle.ps_core.proofs.answers.answer_request.Goals as goal

pub returns-clause-request : goal.returns-clause-request
returns-clause-request c =
    request_made c.args.tables.now.service c.args.origin.host.now (book_of c.args.tables.now) c.args.origin.line c.args.origin.moment c.args.tree c.args.request _ c.in_ok-answer.ensures.entry
    c.requires.tree
