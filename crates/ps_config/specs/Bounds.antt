-- Which configurations there are.
use Rattle.std.specs.Prelude.{◌≤◌, length}
use Rattle.ps_types.specs.declared.config.NodeConfig.{NodeConfig}

-- at least one item and one byte, and no more than a form may ask for
pub record IsConfig (config : NodeConfig) : Type 0 where
  pub some_items : 1 ≤ config.max_items
  pub most_items : config.max_items ≤ 1000
  pub some_bytes : 1 ≤ config.max_payload_size
  pub most_bytes : config.max_payload_size ≤ 131072
  pub name : length config.collection ≤ 512
