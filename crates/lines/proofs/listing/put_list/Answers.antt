use Rattle.std.proofs.Common.{arith}
use Rattle.lines.proofs.Listings.{lists_front}
use Rattle.lines.proofs.listing.put_list.Goals as goal

pub returns-clause-bytes : goal.returns-clause-bytes
returns-clause-bytes g c = lists_front _ _ (omega (arith, c.requires.room)) c.put_rows-listed.ensures.lists c.put_number.ensures.bytes c.put_number.ensures.end
