use Rattle.model.proofs.Ordered.{fits_everywhere_lem}
use Rattle.model.proofs.world.fits_everywhere.Goals as goal

pub returns : goal.returns
returns c = fits_everywhere_lem
