use Rattle.ps_model_cases.proofs.BookmarksHold.{forty-rooms-holds}
use Rattle.ps_model_cases.proofs.nodes.bookmarks_are_kept.Goals as goal

pub returns : goal.returns
returns c = forty-rooms-holds
