-- What a refusal says of what is read.
use Rattle.std.specs.Prelude.{◌≡◌, ℕ, Result, Err}
use Rattle.ps_types.specs.declared.config.NodeConfig.{NodeConfig}
use Rattle.ps_types.specs.declared.config.SubOptions.{SubOptions}
use Rattle.ps_config.specs.declared.options.OptionsRefusal.{OptionsRefusal}
use Rattle.ps_config.specs.declared.options.OptionsRefusal.TheVariants as options
use Rattle.ps_config.specs.declared.read.ConfigRefusal.{ConfigRefusal}
use Rattle.ps_config.specs.declared.read.ConfigRefusal.TheVariants as config

-- a row that is named is the first that isn't readable; memory may run out at whatever form
abbrev pub IsCause : Result NodeConfig ℕ → ConfigRefusal → Type 0
IsCause read (config.BadValue row) = read ≡ Err row
IsCause read config.Memory = Unit {0}

abbrev pub IsBad : Result SubOptions ℕ → OptionsRefusal → Type 0
IsBad read (options.BadValue row) = read ≡ Err row
