-- `layers::first_two` meets its contract: a substituted word's halves are its halves substituted.
-- Assumes nothing.
use Rattle.fox_layers.proofs.Laws.Tables.{sigma-parts}
use Rattle.fox_key_nonlinear.proofs.layers.first_two.Goals as goal

pub returns : goal.returns
returns c =
    let parts = sigma-parts c.args.w in
    rw (c.mu4.ensures, c.mu4-2.ensures, c.halves.ensures, c.sigma8.ensures) (cc (parts.0, parts.1))
