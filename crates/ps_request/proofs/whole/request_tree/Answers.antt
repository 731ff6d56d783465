use Rattle.std.proofs.Common.{◌≡◌, Result, Ok, Err, sym, subst}
use Rattle.std.specs.Prelude.{IfOk}
use Rattle.ps_types.specs.Tree.{Tree}
use Rattle.ps_request.specs.Written.{written, IsTakenWhereOneIs}
use Rattle.ps_request.proofs.Spelled.{written-taken}
use Rattle.ps_request.proofs.whole.request_tree.Goals as goal

weaker : {T E : Type 0} (r : Result T E) (P Q : T → Type 0) → ((x : T) → P x → Q x) → IfOk r P → IfOk r Q
weaker (Ok x) P Q f h = f x h
weaker (Err e) P Q f h = h

pub returns-clause-taken : goal.returns-clause-taken
returns-clause-taken c =
    let r = c.args.request.now in
    weaker c.written_tree.result (λ t. t ≡ written r) (IsTakenWhereOneIs r) (λ t e. subst (IsTakenWhereOneIs r) (sym e) (written-taken r)) c.written_tree.ensures
