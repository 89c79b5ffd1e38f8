-- `tables::fill::from_two` meets its contract.
use Rattle.std.proofs.Common.{◌∙◌, ap, sym, length, arith}
use Rattle.rules.specs.Bytes.{at, tabulate}
use Rattle.laws.proofs.TableLaws.{at-tabulate}
use Rattle.tables.specs.Part.{part}
use Rattle.tables.proofs.LendLaws.{laid_between, beside-part}
use Rattle.tables.proofs.PartLaws.{part_length}
use Rattle.tables.proofs.fill.from_two.Goals as goal

pub loop-c-init : goal.loop-c-init
loop-c-init g c =
    let s = c.args in
    let r = c.requires.apart in
    let p = c.split_at_mut-low.ensures in
    let q = c.split_at_mut-cells.ensures in
    let first = beside-part s.w.now _ _ _ _ s.to s.n p.value p.front_len q.value q.front_len c.beside-first.result.now s.a c.beside-first.ensures in
    let second = beside-part s.w.now _ _ _ _ s.to s.n p.value p.front_len q.value q.front_len c.beside-second.result.now s.b c.beside-second.ensures in (
      q.front_len,
      ap length first ∙ part_length s.w.now s.a s.n r.0.src,
      ap length second ∙ part_length s.w.now s.b s.n r.1.src,
      λ k h. absurd (omega arith),
    )

pub returns : goal.returns
returns g c = λ f is.
    let s = c.args in
    let p = c.split_at_mut-low.ensures in
    let q = c.split_at_mut-cells.ensures in
    let l = c.loop-c in
    let first = beside-part s.w.now _ _ _ _ s.to s.n p.value p.front_len q.value q.front_len c.beside-first.result.now s.a c.beside-first.ensures in
    let second = beside-part s.w.now _ _ _ _ s.to s.n p.value p.front_len q.value q.front_len c.beside-second.result.now s.b c.beside-second.ensures in
    laid_between s.w.now _ _ _ _ s.to s.n p.value p.front_len q.value q.front_len l.cells (tabulate s.n (λ k. f (at (part s.w.now s.a s.n) k) (at (part s.w.now s.b s.n) k))) l.invariant.0
    (λ k h. is _ _ _ (l.invariant.3 k (omega (arith, l.invariant.0))) ∙ ap (λ t. f (at t k) (at c.beside-second.result.now k)) first ∙ ap (λ t. f (at (part s.w.now s.a s.n) k) (at t k)) second ∙ sym (at-tabulate s.n _ k h))
