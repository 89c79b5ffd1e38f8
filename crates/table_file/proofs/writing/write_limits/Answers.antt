-- `table_file::writing::write_limits` meets its contract.
use Rattle.std.proofs.Common.{◌≡◌, ℕ, ◌/◌, ◌≤◌, List, ◌++◌, length, take, drop, replicate, length-take, ◌∙◌, ap, ap₂, arith}
use Rattle.std.proofs.lemmas.List.{length-replicate}
use Rattle.rules.specs.Cell.{cells}
use Rattle.rules.specs.TableFile.{listed_over}
use Rattle.table_file.specs.Reading.{ListedBelow}
use Rattle.table_file.proofs.ListedLaws.{listed-front}
use Rattle.table_file.proofs.writing.write_limits.Goals as goal

-- a file laid over a buffer whose first n bytes, one for each cell, were filled
laid-filled : (file ks : List ℕ) (j n x : ℕ) (filled to : List ℕ) → ListedBelow file ks → length ks ≡ 8 → n ≡ cells ks → cells ks ≤ length to → filled ≡ replicate (length (take n to)) x
    → listed_over file ks j 0 (length file / 16) (filled ++ drop n to) ≡ listed_over file ks j 0 (length file / 16) (replicate (cells ks) x) ++ drop (cells ks) to
laid-filled file ks j n x filled to below eight count room e =
    let size : length (take n to) ≡ cells ks = length-take n to ∙ omega arith in
    ap (listed_over file ks j 0 (length file / 16)) (ap₂ (λ (l : List ℕ) (k : ℕ). l ++ drop k to) (e ∙ ap (λ (k : ℕ). replicate k x) size) count)
    ∙ listed-front file ks j below eight (drop (cells ks) to) 0 (length file / 16) (replicate (cells ks) x) (omega arith) (omega (arith, length-replicate (cells ks) x))

pub returns-clause-lower : goal.returns-clause-lower
returns-clause-lower c =
    let a = c.args in
    c.store.ensures.lower
    ∙ laid-filled a.file.now a.ks 1 c.cell_count-n.result a.least c.fill.new.self a.lower.now c.requires.below (omega arith) c.cell_count-n.ensures c.requires.room.low (c.fill.ensures.after (λ y h. h))

pub returns-clause-upper : goal.returns-clause-upper
returns-clause-upper c =
    let a = c.args in
    c.store.ensures.upper
    ∙ laid-filled a.file.now a.ks 2 c.cell_count-n.result a.most c.fill-2.new.self a.upper.now c.requires.below (omega arith) c.cell_count-n.ensures c.requires.room.high (c.fill-2.ensures.after (λ y h. h))
