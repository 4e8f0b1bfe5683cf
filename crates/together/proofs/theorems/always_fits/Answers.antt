use Rattle.together.proofs.theorems.always_fits.Goals as goal
use Rattle.together.proofs.Now.{always_fits_lem}

pub returns : goal.returns
returns c = always_fits_lem
