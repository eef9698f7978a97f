-- `field::times_fd` meets its contract: its XOR is the product, by a law that was computed over all bytes.
-- Assumes nothing.
use Rattle.fox_layers.proofs.Laws.Field.{products}
use Rattle.fox_layers.proofs.field.times_fd.Statement.{statement}
use Rattle.fox_layers.proofs.field.times_fd.Tie as tie

pub times_fd_spec : {M : Type 1} → statement M
times_fd_spec = tie.close (tie.spec (λ c κs. tt) (λ c. let p = products c.before.args.x c.before.ranges.x.fits in cc))
