-- `join::second_given` meets its contract.
use borrow.Author.Rules.{rules}
use Rattle.join_tables.proofs.HoldLaws.{laid-holds, loaded}
use Rattle.join.proofs.OpenLaws.{first-ready, second-ready, complete}
use Rattle.join.proofs.second_given.Goals as goal

pub first_limits-requires : goal.first_limits-requires
first_limits-requires c = first-ready c.requires.joining

pub block_sound-requires : goal.block_sound-requires
block_sound-requires c = (search rules, c.requires.block, laid-holds (loaded c.load.ensures))

pub second_limits-requires : goal.second_limits-requires
second_limits-requires c =
    second-ready c.first_limits.ensures c.args.g.now c.load.ensures c.block_sound.ensures c.requires.joining c.requires.exists c.if-not-block_sound.false

pub returns : goal.returns
returns c =
    complete c.first_limits.ensures c.args.g.now c.load.ensures c.block_sound.ensures c.if-not-block_sound.false c.second_limits.ensures
