-- `write::put_file` meets its contract: the data is sealed into the end of the file's room, and the file's text is laid over it up to its end.
-- Assumes nothing.
use Rattle.fox_server_key.specs.Prepared.{round_keys_in}
use Rattle.fox_run_file_write.proofs.Laws.File.{input-within, sealed-ready, file-room, close-room, file-put}
use borrow.Author.Rules.{rules}
use Rattle.fox_run_file_write.proofs.write.put_file.Goals as goal

pub overflow_sub-from : goal.overflow_sub-from
overflow_sub-from c = input-within c.requires

pub stretch-requires : goal.stretch-requires
stretch-requires c = sealed-ready c.requires

pub put_unclosed-end-requires : goal.put_unclosed-end-requires
unfolding round_keys_in
put_unclosed-end-requires c =
    file-room c.requires c.stretch.ensures

pub put_close-requires : goal.put_close-requires
unfolding round_keys_in
put_close-requires c =
    close-room c.requires c.stretch.ensures c.put_unclosed-end.ensures (search rules)

pub returns : goal.returns
unfolding round_keys_in
returns c =
    file-put c.requires c.stretch.ensures c.put_unclosed-end.ensures (search rules) c.put_close.ensures
