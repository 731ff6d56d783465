use Rattle.std.proofs.Common.{◌≡◌, ◌++◌, drop}
use Rattle.std.specs.Prelude.{string_bytes}
use Rattle.std.specs.List.{flat_map}
use Rattle.ps_caps.proofs.pieces.add_all.Given as goal

abbrev pub invariant-loop-item : goal.invariant-loop-item
invariant-loop-item g l = string_bytes l.out ++ flat_map (g.T.Piece.piece) (drop l.item-index l.items) ≡ string_bytes l.fn.out ++ flat_map (g.T.Piece.piece) l.items
