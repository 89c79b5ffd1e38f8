-- `listing::put_record` meets its contract.
use Rattle.listing.proofs.PutLaws.{put_then}
use Rattle.listing.proofs.put_record.Goals as goal

pub returns : goal.returns
returns c = put_then c.put_number-numbered.ensures (put_then c.put_text-next.ensures c.put.ensures)
