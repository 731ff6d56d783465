use Rattle.ps_serve.proofs.Fronts.{front-1, front-2, front-3, front-4, front-last, whole-last}
use Rattle.ps_serve.proofs.telling.report_numbers.Goals as goal

pub returns-in_err-report_number-clause-part : goal.returns-in_err-report_number-clause-part
returns-in_err-report_number-clause-part g c = front-1 c.args.numbers.now _ _ c.in_err-report_number.ensures.reported

pub returns-in_err-report_number-2-clause-part : goal.returns-in_err-report_number-2-clause-part
returns-in_err-report_number-2-clause-part g c = front-2 c.args.numbers.now _ _ _ c.in_ok-report_number.ensures.reported c.in_err-report_number-2.ensures.reported

pub returns-in_err-report_number-3-clause-part : goal.returns-in_err-report_number-3-clause-part
returns-in_err-report_number-3-clause-part g c =
    front-3 c.args.numbers.now _ _ _ _ c.in_ok-report_number.ensures.reported c.in_ok-report_number-2.ensures.reported c.in_err-report_number-3.ensures.reported

pub returns-in_err-report_number-4-clause-part : goal.returns-in_err-report_number-4-clause-part
returns-in_err-report_number-4-clause-part g c =
    front-4 c.args.numbers.now _ _ _ _ _ c.in_ok-report_number.ensures.reported c.in_ok-report_number-2.ensures.reported c.in_ok-report_number-3.ensures.reported
    c.in_err-report_number-4.ensures.reported

pub returns-clause-whole : goal.returns-clause-whole
returns-clause-whole g c =
    whole-last c.args.numbers.now _ _ _ _ _ _ c.report_number-5.result c.in_ok-report_number.ensures.reported c.in_ok-report_number-2.ensures.reported
    c.in_ok-report_number-3.ensures.reported c.in_ok-report_number-4.ensures.reported c.report_number-5.ensures.reported

pub returns-clause-part : goal.returns-clause-part
returns-clause-part g c =
    front-last c.args.numbers.now _ _ _ _ _ _ c.report_number-5.result c.in_ok-report_number.ensures.reported c.in_ok-report_number-2.ensures.reported
    c.in_ok-report_number-3.ensures.reported c.in_ok-report_number-4.ensures.reported c.report_number-5.ensures.reported
