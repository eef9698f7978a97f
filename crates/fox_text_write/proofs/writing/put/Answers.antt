-- `writing::put` meets its contract: a part of the buffer becomes the text, as storing its bytes one by one makes it.
-- Assumes nothing.
use Rattle.fox_text.proofs.Laws.Stores.{put-part}
use Rattle.fox_text_write.proofs.writing.put.Goals as goal

pub returns : goal.returns
returns c = put-part _ _ _ _ c.requires c.copy_from_slice.ensures.after
