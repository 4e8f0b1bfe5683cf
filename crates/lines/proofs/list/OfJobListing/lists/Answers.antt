use Rattle.lines.proofs.Listings.{line_lists}
use Rattle.lines.proofs.list.OfJobListing.lists.Goals as goal

pub returns : goal.returns
returns c = λ ready. line_lists c.args.row.words.now ready _ c.is_of.result c.is_of.ensures
