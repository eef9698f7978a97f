-- `last::last_block` meets its contract: the subkey XORed with what there is of the message, and where that is not a whole block with 80 after it.
-- Assumes nothing.
use Rattle.std.proofs.Common.{◌≡◌, length, arith}
use Rattle.fox_engine_subkeys.proofs.Laws.Last.{keyed-whole, keyed-part}
use Rattle.fox_engine_subkeys.proofs.last.last_block.Goals as goal

pub returns-then-part-block : goal.returns-then-part-block
returns-then-part-block c =
    let a = c.args in
    let isnt : length a.part.now ≡ length c.xor_into.new.block → ⊥ = λ q. omega (arith, q, c.if-part-block.true) in
    keyed-part a.block.now a.part.now c.subkey.ensures c.subkey.auto.block c.xor_into.ensures c.requires.1 isnt c.xor_into.auto.block

pub returns-else-part-block : goal.returns-else-part-block
returns-else-part-block c =
    let a = c.args in
    let all : length a.part.now ≡ length c.xor_into.new.block =
    omega (arith, c.if-part-block.false, c.requires.1, c.xor_into.auto.block, c.subkey.auto.block) in
    keyed-whole a.block.now a.part.now c.subkey.ensures c.subkey.auto.block c.xor_into.ensures all c.xor_into.auto.block
