-- A read lays its bytes behind those of the reads before it.
use Rattle.std.proofs.Common.{rules, ◌≡◌, ℕ, ◌+◌, ◌-◌, ◌≤◌, List, ◌++◌, length, take, drop, sym, ap, ap₂, ◌∙◌, subst, le_refl, drop_at, length-take-le}
use Rattle.std.proofs.lemmas.Slice.{take-put_mid_below}
use Rattle.std.specs.Io.KnownBytes.{Consumes}
use Rattle.std.proofs.KnownBytes.{Consumes-trans}
use borrow.Rule.Slice.PartMut.{put_mid, post_of}
use lib.Seq.{take-add, take-append-le}
use Rattle.streams.proofs.read_file.Goals as goal

read_behind : (a k n : ℕ) (xs ys : List ℕ) → a ≤ length xs → n ≤ length ys → take a xs ++ take n ys ≡ take (a + n) (put_mid a k xs ys)
read_behind a k n xs ys within fits =
    let after = post_of a k xs in
    let behind : take n (drop a (put_mid a k xs ys)) ≡ take n ys =
    ap (take n) (drop_at (take a xs) (ys ++ after) a (length-take-le a xs within)) ∙ take-append-le n ys after fits in
    ap₂ (λ (front rest : List ℕ). front ++ rest) (sym (take-put_mid_below a k xs ys a (le_refl a) within)) (sym behind)
    ∙ sym (take-add a n (put_mid a k xs ys))

pub loop-len-preserved : goal.loop-len-preserved
loop-len-preserved g c =
    let within = c.loop-len.invariant.0 in
    let behind = read_behind c.loop-len.len (length c.loop-len.file - c.loop-len.len) c.in-Ok.count c.loop-len.file c.read.new.buf within c.in-Ok.ensures.bound.0 in
    (search rules, subst (Consumes _ _) behind (Consumes-trans _ _ _ _ _ c.loop-len.invariant.1 c.in-Ok.ensures.bytes.0))
