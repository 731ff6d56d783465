-- The rows of the configuration by their names.
use Rattle.std.specs.Prelude.{ℕ, List, [], ◌∷◌, None}
use Rattle.std.specs.List.{slice_index_or}
use Rattle.ps_types.specs.Config.{ConfigRow, config_rows}
use Rattle.ps_config.specs.declared.row.Setting.{Setting}
use Rattle.ps_config.specs.declared.row.Setting.TheVariants as row

-- how many rows stand before it
abbrev pub place_of : Setting → ℕ
place_of row.Title = 0
place_of row.DeliverNotifications = 1
place_of row.DeliverPayloads = 2
place_of row.NotifyConfig = 3
place_of row.NotifyDelete = 4
place_of row.NotifyRetract = 5
place_of row.PersistItems = 6
place_of row.MaxItems = 7
place_of row.AccessModel = 8
place_of row.PublishModel = 9
place_of row.RosterGroupsAllowed = 10
place_of row.SendLastPublishedItem = 11
place_of row.PresenceBasedDelivery = 12
place_of row.NotificationType = 13
place_of row.MaxPayloadSize = 14
place_of row.NodeType = 15
place_of row.Collection = 16

abbrev no_row : ConfigRow
no_row = record { var = []; type = []; values = λ config. []; change = λ config values. None }

-- the row of that name in the table
unfoldable pub row_of : Setting → ConfigRow
row_of r = slice_index_or config_rows (place_of r) no_row

-- the rows in the order of the table
abbrev pub all_rows : List Setting
all_rows =
    row.Title ∷ row.DeliverNotifications ∷ row.DeliverPayloads ∷ row.NotifyConfig ∷ row.NotifyDelete ∷ row.NotifyRetract ∷ row.PersistItems ∷ row.MaxItems ∷ row.AccessModel
    ∷ row.PublishModel ∷ row.RosterGroupsAllowed ∷ row.SendLastPublishedItem ∷ row.PresenceBasedDelivery ∷ row.NotificationType ∷ row.MaxPayloadSize ∷ row.NodeType
    ∷ row.Collection ∷ []
