use Rattle.std.proofs.Common.{◌≡◌, ℕ, ◌+◌, ◌≤◌, ◌%◌, ◌^◌, arith, List, [], ◌∷◌, ◌++◌, length, ap, sym, ◌∙◌, length-append}
use Rattle.std.proofs.Math.Nat.{mod-add-mod}
use Rattle.std.specs.Int.{to_be_bytes, w32}
use Rattle.ps_model.specs.Entries.{spelling}
use Rattle.ps_follow_run.proofs.Recorded.{one-more, record_at}
use Rattle.ps_follow_run.proofs.Wrapping.{wrapped-bytes}
use Rattle.ps_follow_run.proofs.feeding.Records.push.Goals as goal

pub returns-clause-taken : goal.returns-clause-taken
returns-clause-taken c from E are =
    let e = c.args.entry.now in
    let behind : from ≤ length E = omega (arith, c.if-self-gt0.false, are.before_is) in
    let wrapped : record_at (length E % 2 ^ 64) e ≡ record_at (length E) e =
    ap (λ (bytes : List ℕ). bytes ++ (to_be_bytes w32 (length (spelling e)) ++ spelling e)) (wrapped-bytes (length E))
    in
    let place : record_at c.args.self.now.place e ≡ record_at (length E) e = ap (λ (n : ℕ). record_at n e) are.place_is ∙ wrapped in
    record {
      before_is = omega (arith, c.if-self-gt0.false, behind, length-append E (e ∷ []));
      place_is =
          ap (λ (n : ℕ). (n + 1) % 2 ^ 64) are.place_is ∙ mod-add-mod (length E) (2 ^ 64) 1
          ∙ ap (λ (n : ℕ). n % 2 ^ 64) (sym (length-append E (e ∷ [])));
      bytes_are = grind (arith, c.in_ok-extend_from_slice.ensures.items, c.as_slice.ensures, c.in_ok-record.ensures, are.bytes_are, place, one-more from E e behind);
    }
