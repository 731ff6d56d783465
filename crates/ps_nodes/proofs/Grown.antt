-- What is kept stays so where more room is made.
use Rattle.std.proofs.Common.{◌≡◌, ℕ, ◌≤◌, Option, ap, arith, length, subst, sym, ◌∙◌}
use Rattle.std.specs.Prelude.{vec_capacity}
use Rattle.std.specs.Global.{Vec}
use Rattle.ps_base.specs.Rows.{Table}
use Rattle.ps_rows.specs.Placed.{Places}
use Rattle.ps_rows.specs.Standing.{marked_by, standing}
use Rattle.ps_types.specs.declared.rows.NodeRow.{NodeRow}
use Rattle.ps_nodes.specs.Gaps.{empties}
use Rattle.ps_nodes.specs.Kept.{AreOnce, PlacesAreKept, name_digest}

pub kept-grown : (places places' : Places NodeRow) (named named' : Table (Option ℕ)) (gaps gaps' : Vec ℕ) → places'.rows ≡ places.rows → places'.seed ≡ places.seed → named'.rows ≡ named.rows
    → gaps'.items ≡ gaps.items → vec_capacity gaps ≤ vec_capacity gaps' → PlacesAreKept places named gaps → PlacesAreKept places' named' gaps'
kept-grown places places' named named' gaps gaps' r s n g c is = record {
  names = n ∙ (is.names ∙ (ap (marked_by (name_digest places.seed)) (sym r) ∙ ap (λ d. marked_by (name_digest d) places'.rows) (sym s)));
  empty = g ∙ (is.empty ∙ ap (empties 0) (sym r));
  once = subst (λ x. AreOnce (standing x)) (sym r) is.once;
  held = (let l = ap length r in let h = is.held in omega (arith, l, h, c));
}
