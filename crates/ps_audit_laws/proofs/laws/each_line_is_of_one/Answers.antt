use Rattle.std.proofs.Common.{List, [], ◌∷◌, sym, subst}
use Rattle.ps_types.specs.declared.jid.Jid.{Jid}
use Rattle.ps_model.specs.Access.{read}
use Rattle.ps_model.specs.Sorted.{sorted}
use Rattle.ps_model.proofs.Ordered as order
use Rattle.ps_audit_laws.specs.Order.{Ascend}
use Rattle.ps_audit_laws.specs.Readers.{known}
use Rattle.ps_audit_laws.proofs.Reading.{first-each}
use Rattle.ps_audit_laws.proofs.laws.each_line_is_of_one.Goals as goal

-- the order of ps_model's lemmas is that of the law
as-read : (xs : List Jid) → order.Ascend xs → Ascend xs
as-read [] is = tt
as-read (x ∷ xs) is = (is.0, as-read xs is.1)

pub returns : goal.returns
returns c = λ book row. subst Ascend (sym (first-each (read book row.key) (sorted (known book row)))) (as-read (sorted (known book row)) (order.ascend-sorted (known book row)))
