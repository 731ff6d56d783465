use Rattle.std.proofs.Common.{◌≡◌, ℕ, List, arith, refl, ap, subst, ◌∙◌}
use Rattle.ps_follow.proofs.Fronts.{no-entry, no-whole, record-is}
use Rattle.std.specs.Prelude.{Result, Err, IfErr}
use Rattle.ps_types.specs.declared.entry.Entry.{Entry}
use Rattle.ps_record.specs.Reading.{IsCause}
use Rattle.ps_record.specs.declared.reading.EntryRefusal.{EntryRefusal}
use Rattle.ps_record.specs.declared.reading.EntryRefusal.TheVariants.{Bad}
use Rattle.ps_follow.proofs.records.record_of.Goals as goal

bad-cause : (body : List ℕ) (r : Result (Entry × ℕ) EntryRefusal) (at : ℕ) → r ≡ Err (Bad at) → IfErr r (IsCause body 0) → IsCause body 0 (Bad at)
bad-cause body r at e cause = subst (λ (x : Result (Entry × ℕ) EntryRefusal). IfErr x (IsCause body 0)) e cause

pub returns-then-end-body : goal.returns-then-end-body
returns-then-end-body c =
    let p = c.in-Ok.ensures.entry in
    no-whole c.args.bytes.now (λ i. omega (arith, c.type_inv.bytes i)) c.requires.short c.requires.whole c.args.body.now c.requires.body c.in-Ok.entry c.in-Ok.end p.0 p.1 p.2 c.if-end-body.true

pub returns-in-Err-Bad : goal.returns-in-Err-Bad
returns-in-Err-Bad c =
    let p = bad-cause c.args.body.now c.read_entry.result c.in-Err-Bad.field-0-0 (c.in-Err-Bad.is ∙ ap Err c.in-Err-Bad.field-0-is) c.read_entry.ensures.cause in
    no-entry c.args.bytes.now (λ i. omega (arith, c.type_inv.bytes i)) c.requires.short c.requires.whole c.args.body.now c.requires.body p.1

pub returns-else-end-body : goal.returns-else-end-body
returns-else-end-body c =
    let p = c.in-Ok.ensures.entry in
    record-is c.args.bytes.now (λ i. omega (arith, c.type_inv.bytes i)) c.requires.short c.requires.whole c.args.body.now c.requires.body c.in-Ok.entry c.in-Ok.end c.args.place _ p.0 p.1 p.2
    c.if-end-body.false c.requires.place refl
