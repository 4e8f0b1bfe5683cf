use Rattle.lines.proofs.Listings.{order_lists}
use Rattle.lines.proofs.list.RunsOnListing.lists.Goals as goal

pub returns : goal.returns
returns c = λ ready. order_lists c.args.row.words.now ready _ c.runs_on.result c.runs_on.ensures
