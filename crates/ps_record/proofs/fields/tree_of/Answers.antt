use Rattle.std.proofs.Common.{◌∙◌}
use Rattle.ps_record.proofs.Trees.{print_read, only_tree, not_refused}
use Rattle.ps_record.proofs.fields.tree_of.Goals as goal

pub returns-else-is_same : goal.returns-else-is_same
returns-else-is_same c t is printed =
    let same = c.if-is_same.ensures.1 (c.as_slice.ensures ∙ c.in-Ok-print_tree.ensures.text ∙ only_tree c.args.bytes.now c.in-Ok.tree t c.in-Ok.ensures.tree is printed) in
    absurd cc

pub returns-in-Err-L2 : goal.returns-in-Err-L2
returns-in-Err-L2 c t is printed =
    not_refused c.args.bytes.now c.in-Err-L2.field-0 c.in-Err-L2.ensures.cause (λ same. let two = c.in-Err-L2.field-0-is in absurd cc) t (print_read c.args.bytes.now t is printed)

pub returns-in-Err-L3 : goal.returns-in-Err-L3
returns-in-Err-L3 c t is printed =
    not_refused c.args.bytes.now c.in-Err-L3.field-0 c.in-Err-L3.ensures.cause (λ same. let two = c.in-Err-L3.field-0-is in absurd cc) t (print_read c.args.bytes.now t is printed)

pub returns-in-Err-L4 : goal.returns-in-Err-L4
returns-in-Err-L4 c t is printed =
    not_refused c.args.bytes.now c.in-Err-L4.field-0 c.in-Err-L4.ensures.cause (λ same. let two = c.in-Err-L4.field-0-is in absurd cc) t (print_read c.args.bytes.now t is printed)
