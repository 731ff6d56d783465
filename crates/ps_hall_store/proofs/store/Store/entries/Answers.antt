use Rattle.std.proofs.Common.{◌≡◌, ap, refl, ◌∙◌, sym, None}
use Rattle.std.specs.Prelude.{is_some}
use Rattle.ps_journal.specs.Journal.{broken_of}
use Rattle.ps_hall_store.proofs.Storing.{read_ok, refused_ok, whole_or}
use Rattle.ps_hall_store.proofs.store.Store.entries.Goals as goal

pub returns-in-Ok-clause-ok : goal.returns-in-Ok-clause-ok
returns-in-Ok-clause-ok g c = λ at w is.
    let e = c.in-Ok.ensures in
    let none : broken_of c.args.self.now.journal ≡ None = whole_or (broken_of c.args.self.now.journal) (λ not. cc (e.for_good not).0) in
    let still : broken_of c.entries.new.self ≡ None = e.still_whole none (λ no. cc no) in
    let unbroken = is.broken ∙ ap (λ o. is_some o) none in (
      read_ok g.met.D.Disk.counts_now at c.args.self.now _ w is e.seen e.synced e.written e.any_moment e.length e.later refl (still ∙ sym none) refl refl refl,
      unbroken,
      λ tells. e.entries tells
          w.entries ((is.whole unbroken).seen tells),
    )

pub returns-in-Err-Memory-clause-err : goal.returns-in-Err-Memory-clause-err
returns-in-Err-Memory-clause-err g c = λ at w is.
    let e = c.in-Err-Memory.ensures in
    let none : broken_of c.args.self.now.journal ≡ None = whole_or (broken_of c.args.self.now.journal) (λ not. cc ((e.for_good not).0, c.in-Err-Memory.field-0-is)) in
    let still : broken_of c.entries.new.self ≡ None = e.still_whole none (λ no. cc (no, c.in-Err-Memory.field-0-is)) in
    read_ok g.met.D.Disk.counts_now at c.args.self.now _ w is e.seen e.synced e.written e.any_moment e.length e.later refl (still ∙ sym none) refl refl refl

pub returns-in-Err-Store-clause-err : goal.returns-in-Err-Store-clause-err
returns-in-Err-Store-clause-err g c = λ at w is.
    let e = c.in-Err-Store.ensures in
    refused_ok g.met.D.Disk.counts_now at c.args.self.now _ w is e.seen e.synced e.written e.any_moment e.length e.later refl (broken_of c.args.self.now.journal) refl (λ not. (e.for_good not).2)
    (λ none. e.first_fault none (cc c.in-Err-Store.field-0-is)) (e.store (cc c.in-Err-Store.field-0-is)) refl refl refl
