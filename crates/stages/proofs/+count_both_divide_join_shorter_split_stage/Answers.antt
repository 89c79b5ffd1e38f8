-- `stages::+count_both_divide_join_shorter_split_stage` meets its contract.
use mathlib.Core.Path.{◌≡◌, refl, ◌∙◌}
use Prim.Native.Nat.{ℕ, ◌/◌}
use native.Mathlib.Omega.{arith}
use lib.ListN.{length}
use borrow.Author.Rules.{rules}
use Rattle.rules.specs.Stage.{tree_of}
use Rattle.stage_drops.specs.Working.{front_stage}
use Rattle.rules.specs.Settings.{settings_of}
use Rattle.stages.specs.Begins.{may_take}
use Rattle.stages.specs.Staging.{Written, Splits}
use Rattle.stages.proofs.BeginLaws.{starts_unmasked}
use Rattle.stages.proofs.SplitStageLaws.{Axis, InTurn, found-cut, found-splits, found_divided, axis, apart_low, value_room, value_starts, value_falls, value-back, gates_room, value_keep, turn_more, split-whole, split_done}
use Rattle.stages.proofs.StageEndLaws.{written-here, spread_room, still, divide_falls, join_falls, whole, leaf_room, leaf-done, divides, divide_done, joins, join_done}
use Rattle.stages.proofs.BlockStageLaws.{first-room, first_starts, first_falls, first_back, second-room, second_starts, second_falls, second_back, close_room, joined-whole, joined-aside, joined-lows}
use Rattle.stages.proofs.WeakStageLaws.{joins_alone, joined_alone, split-counts, open_room, weak-counts, both-counted, kept_whole, weak_writes, weak-written, split_writes, split-written, known_as, tries, tries_falls, tries_numbers, splits-here, tried-written}
use Rattle.stages.proofs.+count_both_divide_join_shorter_split_stage.Goals.{join-After-first_table-first_block, join-After-second_table-second_block, split-After-begin_value-literal, split-After-without_one-b, split-In-loop-k, stage-Joined-choice, stage-in-Leaf, stage-in-Split, stage-in-Join}
use Rattle.stages.proofs.+count_both_divide_join_shorter_split_stage.Goals as goal

pub join-first_table-first_block-requires : goal.join-first_table-first_block-requires
join-first_table-first_block-requires t c = first-room c.requires.0.1

pub join-stage-first-requires : goal.join-stage-first-requires
join-stage-first-requires t c =
    let j = c.requires.0.1 in
    let f = c.first_table-first_block.ensures in
    (let h = first_falls j f.0 in omega arith, starts_unmasked c.requires.1 (first_starts j f.0 f.1))

pub join-second_table-second_block-requires : goal.join-second_table-second_block-requires
join-second_table-second_block-requires t c =
    let j = c.requires.0.1 in
    let f = c.first_table-first_block.ensures.0 in
    let x = c.stage-first.ensures in
    second-room j f x (first_back j f x)

pub join-stage-second-requires : goal.join-stage-second-requires
join-stage-second-requires t c =
    let j = c.requires.0.1 in
    let f = c.first_table-first_block.ensures.0 in
    let x = c.stage-first.ensures in
    let k = first_back j f x in
    let z = c.second_table-second_block.ensures in
    (let h = second_falls j f x k z.0 in omega arith, second_starts j f x k z.0 z.1)

pub join-close_join-requires : goal.join-close_join-requires
join-close_join-requires t c =
    let j = c.requires.0.1 in
    let f = c.first_table-first_block.ensures.0 in
    let x = c.stage-first.ensures in
    let k = first_back j f x in
    let z = c.second_table-second_block.ensures.0 in
    let x' = c.stage-second.ensures in
    close_room j f x k z x' (second_back j f x k z x')

pub join-returns : goal.join-returns
join-returns t c =
    let j = c.requires.0.1 in
    let f = c.first_table-first_block.ensures.0 in
    let x = c.stage-first.ensures in
    let z = c.second_table-second_block.ensures.0 in
    let x' = c.stage-second.ensures in
    let k = first_back j f x in
    let k' = second_back j f x k z x' in
    let d = c.close_join.ensures in
    record {
      whole = λ l j.
          let k = first_back j f x in
          joined-whole j f x k z x' (second_back j f x k z x') d;
      aside = joined-aside j f x k z x' k' d;
      lows = joined-lows j f x k z x' k' d;
    }

-- it splits on the condition that was found, and what it has read off its places
split-here : (t : ℕ) (c : split-After-without_one-b t)
    → let a = c.args in Splits (settings_of a.how) a.m c.split_on-on.result.number a.ks a.c a.w.now a.r
split-here t c = found-splits c.split_on-on.ensures c.requires.0

split-axis : (t : ℕ) (c : split-After-without_one-b t)
    → let a = c.args in
    let o = c.split_on-on.result in
    Axis a.ks o.number c.without_one-b.result (a.c / o.values) o.step o.values
split-axis t c =
    let eight : length c.args.ks ≡ 8 = search rules in
    axis (found-splits c.split_on-on.ensures c.requires.0) (found-cut c.split_on-on.ensures) eight c.without_one-b.ensures

pub split-overflow_mul-apart : goal.split-overflow_mul-apart
split-overflow_mul-apart t c =
    let l = apart_low (split-here t (goal.at.split-overflow_mul-apart t c).After-without_one-b) (split-axis t (goal.at.split-overflow_mul-apart t c).After-without_one-b) in
    let h = (split-here t (goal.at.split-overflow_mul-apart t c).After-without_one-b).whole.left.work in
    search rules

-- the value in turn
split-value : (t : ℕ) (c : split-In-loop-k t)
    → let q = c.before in
    let a = q.args in
    let o = q.split_on-on.result in
    let l = c.loop-k in
    InTurn (settings_of a.how) a.m o.number a.ks a.c a.want a.w.now a.network.now a.r q.without_one-b.result (a.c / o.values) o.step o.values l.k l.total l.w l.network
split-value t c =
    let eight : length c.args.ks ≡ 8 = search rules in
    let h = found-splits c.split_on-on.ensures c.requires.0 in
    let a = axis h (found-cut c.split_on-on.ensures) eight c.without_one-b.ensures in
    record { splits = h; axis = a; turn = c.loop-k.invariant.1 _ h a; below = c.loop-k-test.true }

pub split-begin_value-literal-requires : goal.split-begin_value-literal-requires
split-begin_value-literal-requires t c = let z = split-value t (goal.at.split-begin_value-literal-requires t c).In-loop-k in value_room z.splits z.axis z.turn z.below

pub split-stage-of-requires : goal.split-stage-of-requires
split-stage-of-requires t c =
    let z = split-value t (goal.at.split-stage-of-requires t c).In-loop-k in
    let g = c.begin_value-literal.ensures in
    (let f = value_falls z.splits z.axis z.turn z.below g in omega arith, value_starts z.splits z.axis z.turn z.below g)

pub split-keep_value-requires : goal.split-keep_value-requires
split-keep_value-requires t c =
    let z = split-value t (goal.at.split-keep_value-requires t c).In-loop-k in
    let g = c.begin_value-literal.ensures in
    let y = c.stage-of.ensures in
    value_keep z.splits z.axis z.turn z.below g y (value-back z.splits z.axis z.turn z.below g y)

pub split-end_value-total-requires : goal.split-end_value-total-requires
split-end_value-total-requires t c =
    let z = split-value t (goal.at.split-end_value-total-requires t c).In-loop-k in
    gates_room z.splits z.axis z.turn z.below c.begin_value-literal.ensures c.stage-of.ensures

pub split-loop-k-preserved : goal.split-loop-k-preserved
split-loop-k-preserved t c =
    let lt = c.loop-k-test.true in (
      omega arith,
      λ ks h a.
          let u = c.loop-k.invariant.1 ks h a in
          let g = c.begin_value-literal.ensures in
          let y = c.stage-of.ensures in
          turn_more h a u lt g y (value-back h a u lt g y) c.keep_value.ensures c.end_value-total.ensures,
    )

pub split-returns : goal.split-returns
split-returns t c =
    let h = split-here t (goal.at.split-returns t c).After-without_one-b in
    let a = split-axis t (goal.at.split-returns t c).After-without_one-b in
    let l = c.loop-k in
    found_divided c.split_on-on.ensures (split-whole h a (l.invariant.1 _ h a) (let m = l.invariant.0 in omega arith))

pub stage-leaf-of-requires : goal.stage-leaf-of-requires
stage-leaf-of-requires t c = leaf_room c.requires c.plan_stage-plan.ensures c.in-Leaf.is

pub stage-divide-of-requires : goal.stage-divide-of-requires
stage-divide-of-requires t c =
    let p = c.plan_stage-plan.ensures in
    let q = c.tries.ensures ∙ still c.requires p in
    (let f = divide_falls c.requires p q in omega arith, (divides c.requires p c.in-Split.is q, p.lowest))

pub stage-join-of-requires : goal.stage-join-of-requires
stage-join-of-requires t c =
    let p = c.plan_stage-plan.ensures in
    (let f = join_falls c.requires p in omega arith, ((_, joins c.requires p c.in-Join.is), refl))

-- the network of the conditions left, whichever way it came
stage-came : (t : ℕ) (c : stage-Joined-choice t)
    → let d = c.before in
    let a = d.args in
    Written d.plan_stage-plan.result.places (tree_of (settings_of a.how) a.m (may_take a.begin) (front_stage a.ks a.w.now)) 0 a.want d.plan_stage-plan.new.w a.network.now a.r c.match-choice.of c.match-choice.w c.match-choice.network
stage-came t c =
    let d = c.before in
    let s = d.requires in
    let o = d.plan_stage-plan.ensures in
    let eight : length d.plan_stage-plan.result.places ≡ 8 = search rules in
    elim c.match-choice.branch [
      | stage-in-Leaf p ↦ written-here p.w-is p.network-is p.of-is (leaf-done s o p.in-Leaf.is eight p.leaf-of.ensures)
      | stage-in-Split p ↦ written-here p.w-is p.network-is p.of-is (divide_done s o p.in-Split.is (p.tries.ensures ∙ still s o) p.divide-of.ensures)
      | stage-in-Join p ↦ written-here p.w-is p.network-is p.of-is (join_done s o p.in-Join.is p.join-of.ensures)
    ]

pub stage-spread_if-requires : goal.stage-spread_if-requires
stage-spread_if-requires t c = spread_room c.requires c.plan_stage-plan.ensures (stage-came t (goal.at.stage-spread_if-requires t c).Joined-choice).len

pub stage-returns : goal.stage-returns
stage-returns t c = whole c.requires c.plan_stage-plan.ensures (stage-came t (goal.at.stage-returns t c).Joined-choice) c.spread_if.ensures

pub count_both-split-split-requires : goal.count_both-split-split-requires
count_both-split-split-requires t c =
    (omega arith, (split-counts c.requires.0, c.requires.1))

pub count_both-open-requires : goal.count_both-open-requires
count_both-open-requires t c = open_room c.requires.0 c.split-split.ensures

pub count_both-join-weak-requires : goal.count_both-join-weak-requires
count_both-join-weak-requires t c =
    let a = c.alone.ensures in
    (omega arith, ((_, joins_alone c.args.tried.condition a.0 a.1 (weak-counts c.requires.0 c.split-split.ensures c.«open».ensures)), refl))

pub count_both-returns : goal.count_both-returns
count_both-returns t c =
    let a = c.alone.ensures in
    both-counted c.requires.0 c.split-split.ensures c.«open».ensures (joined_alone c.args.tried.condition a.0 a.1 c.join-weak.ensures)

pub shorter-returns-then-network-eq0 : goal.shorter-returns-then-network-eq0
shorter-returns-then-network-eq0 t c = kept_whole c.requires.0 c.count_both-counted.ensures c.args.r c.if-network-eq0.true c.keep.ensures

pub shorter-join-requires : goal.shorter-join-requires
shorter-join-requires t c =
    let a = c.alone.ensures in
    let j = weak_writes c.requires.0 c.count_both-counted-2.ensures c.args.r c.requires.2 c.if-counted.true c.reopen.ensures in
    (omega arith, ((_, joins_alone c.args.tried.condition a.0 a.1 j), refl))

pub shorter-returns-then-counted : goal.shorter-returns-then-counted
shorter-returns-then-counted t c =
    let a = c.alone.ensures in
    weak-written c.requires.0 c.count_both-counted-2.ensures c.args.r c.requires.2 c.if-counted.true c.reopen.ensures (joined_alone c.args.tried.condition a.0 a.1 c.join.ensures)

pub shorter-returns : goal.shorter-returns
shorter-returns t c =
    let l = c.if-counted.false in
    let k = c.count_both-counted-2.ensures in
    let o = c.restore.ensures in
    let s = split_writes c.requires.0 k c.args.r c.requires.2 (omega arith) o in
    split-written c.requires.0 k c.args.r c.requires.2 (omega arith) o (split_done s c.split-of.ensures c.collect.ensures)

pub divide-shorter-requires : goal.divide-shorter-requires
divide-shorter-requires t c =
    let h = c.requires.0 in
    let e = known_as c.in-Some.is c.first_weak.ensures in
    let eight : length c.args.ks ≡ 8 = search rules in
    (let f = tries_falls h e in omega arith, (tries h e eight, c.requires.1, tries_numbers h e))

pub divide-returns-in-None : goal.divide-returns-in-None
divide-returns-in-None t c =
    let h = c.requires.0 in
    let e = known_as c.in-None.is c.first_weak.ensures in
    tried-written h e (split_done (splits-here h e) c.split-of.ensures c.collect.ensures)
