-- When a subscription is as it was.
use Rattle.std.specs.Prelude.{Bool, ◌&&◌}
use Rattle.ps_types.specs.declared.config.SubOptions.{SubOptions}
use Rattle.ps_types.specs.declared.rows.SubRow.{SubRow}
use Rattle.ps_types.specs.declared.rows.SubState.{SubState}
use Rattle.ps_types.specs.contracts.config.SubOptionsPartialEq.TheImpl as options
use Rattle.ps_types.specs.contracts.rows.SubStatePartialEq.TheImpl as state

-- the row has this state and these options
abbrev pub has_them : SubState → SubOptions → SubRow → Bool
has_them s o row = state.eq-value.it s row.state && options.eq-value.it o row.options
