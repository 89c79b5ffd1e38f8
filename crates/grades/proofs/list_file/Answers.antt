-- `grades::list_file` meets its contract.
use mathlib.Core.Path.{◌≡◌}
use native.Mathlib.Omega.{arith}
use lib.ListN.{length}
use borrow.Author.Rules.{rules}
use Rattle.laws.proofs.VerdictLaws.{handed_on}
use Rattle.compile.proofs.CountLaws.{shape-sound, few-records}
use Rattle.listing.proofs.PutLaws.{put_as, put-within}
use Rattle.grades.proofs.AnswerLaws.{file_refused, file_compiled, file_listed}
use Rattle.grades.proofs.list_file.Goals as goal

pub returns-in_err-shape-clause-refused : goal.returns-in_err-shape-clause-refused
returns-in_err-shape-clause-refused c = file_refused c.read_table.ensures (search rules) (search rules) c.in_err-shape.was (handed_on c.from_residual.ensures.1)

pub returns-in_err-count-clause-refused : goal.returns-in_err-count-clause-refused
returns-in_err-count-clause-refused c =
    file_compiled c.read_table.ensures (search rules) (search rules) c.in_ok-shape.was c.compile.ensures (search rules) (search rules) c.in_err-count.was

pub put_listing-requires : goal.put_listing-requires
put_listing-requires c =
    let few = few-records c.compile.ensures c.in_ok-count.count c.in_ok-count.was in
    let long : length c.compile.new.network ≡ 49072 = search rules in
    (omega arith, omega arith, shape-sound c.compile.ensures c.in_ok-count.count c.in_ok-count.was, omega arith)

pub returns-clause-listed : goal.returns-clause-listed
returns-clause-listed c =
    let few = few-records c.compile.ensures c.in_ok-count.count c.in_ok-count.was in
    put-within 190168 (omega arith)
    (put_as (file_listed c.read_table.ensures (search rules) (search rules) c.in_ok-shape.was c.compile.ensures (search rules) (search rules) c.in_ok-count.count c.in_ok-count.was) c.put_listing.ensures)
