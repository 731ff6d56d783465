use Rattle.std.proofs.Common.{◌≡◌, ◌++◌, map, take}
use Rattle.ps_types.specs.Config.{config_field}
use Rattle.ps_config.specs.Rows.{row_of}
use Rattle.ps_config.proofs.print.add_rows.Given as goal

abbrev pub invariant-loop-row : goal.invariant-loop-row
invariant-loop-row l = l.fields ≡ l.fn.fields ++ map (config_field l.config) (map row_of (take l.row-index l.row-items))
