use Rattle.std.proofs.Common.{◌<◌, [], ◌∷◌, ◌++◌, length, ap, sym, ◌∙◌, arith}
use Rattle.ps_types.specs.declared.jid.Jid.{Jid}
use Rattle.ps_access.specs.Tables.{book_of}
use Rattle.ps_fanout.specs.Hearing.{hears}
use Rattle.ps_fanout.proofs.More.{given-none, given-some, jid-same}
use Rattle.ps_fanout.proofs.hearing.told_among.Goals as goal

pub loop-who-preserved-in_default : goal.loop-who-preserved-in_default
loop-who-preserved-in_default c =
    let less : c.loop-who.who-index < length c.args.whos.now = omega arith in
    given-none (hears (book_of c.args.tables.now) c.args.news.now) c.args.whos.now c.loop-who.who-index c.who-item.result less c.who-item.is (sym c.in_ok-draft.ensures ∙ c.in_default.is)
    c.loop-who.told.items
    c.loop-who.invariant

pub loop-who-preserved : goal.loop-who-preserved
loop-who-preserved c =
    let less : c.loop-who.who-index < length c.args.whos.now = omega arith in
    c.in_ok-push.ensures.items ∙ ap (λ (who : Jid). c.loop-who.told.items ++ (who, c.in-Some.draft) ∷ []) (jid-same c.in_ok-clone.field-0 c.who-item.result c.in_ok-clone.ensures.cases)
    ∙ given-some (hears (book_of c.args.tables.now) c.args.news.now) c.args.whos.now c.loop-who.who-index c.who-item.result c.in-Some.draft less c.who-item.is
    (sym c.in_ok-draft.ensures ∙ c.in-Some.is)
    c.loop-who.told.items c.loop-who.invariant
