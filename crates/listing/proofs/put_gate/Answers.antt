-- `listing::put_gate` meets its contract.
use native.Mathlib.Omega.{arith}
use Rattle.listing.proofs.PutLaws.{put_then, put-within}
use Rattle.listing.proofs.put_gate.Goals as goal

pub returns : goal.returns
returns c =
    put-within 16 (omega arith) (put_then c.put-named.ensures (put_then c.put_word-next.ensures c.put_word.ensures))
