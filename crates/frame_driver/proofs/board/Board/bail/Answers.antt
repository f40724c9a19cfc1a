use Rattle.std.proofs.Common.{rules}
use Rattle.std.proofs.lemmas.List.Sorted.{IsNonDecreasingBy-from_sort_by_key}
use Rattle.frame_driver.specs.Bailing.{age}
use Rattle.frame_driver.proofs.Replying.{order_ours, bailed_sound, bailed_parted, bailed_nests, bailed_held, bailed_work, bailed_paid, bailed_frames}
use Rattle.frame_driver.proofs.Rooting.{bailed_rooted}
use Rattle.frame_driver.proofs.board.Board.bail.Goals as goal

pub returns-clause-bailed : goal.returns-clause-bailed
returns-clause-bailed g c = record {
  order = c.sort_by_key.new.self.items;
  same = c.in_ok-sort_by_key.ensures.permutation;
  oldest = IsNonDecreasingBy-from_sort_by_key (λ b. age c.args.self.now.stack b.wind) _ c.in_ok-sort_by_key.ensures.sorted (λ a r q k. search rules);
  ended = c.in_ok-won.ensures.ended;
}

pub returns-clause-sound : goal.returns-clause-sound
unfolding returns-clause-bailed
returns-clause-sound g c = λ ps s. bailed_sound c.args.winds.items c.args.self.now _ _ (returns-clause-bailed g c) (order_ours c.args.self.now.stack c.args.self.now.graph c.args.winds.items _ c.in_ok-sort_by_key.ensures.permutation c.requires.ours) ps s

pub returns-clause-parted : goal.returns-clause-parted
unfolding returns-clause-bailed
returns-clause-parted g c = λ outer rest p split. bailed_parted c.args.winds.items c.args.self.now _ _ (returns-clause-bailed g c) (order_ours c.args.self.now.stack c.args.self.now.graph c.args.winds.items _ c.in_ok-sort_by_key.ensures.permutation c.requires.ours) outer rest p split

pub returns-clause-nests : goal.returns-clause-nests
unfolding returns-clause-bailed
returns-clause-nests g c = λ ps n. bailed_nests c.args.winds.items c.args.self.now _ _ (returns-clause-bailed g c) (order_ours c.args.self.now.stack c.args.self.now.graph c.args.winds.items _ c.in_ok-sort_by_key.ensures.permutation c.requires.ours) ps n

pub returns-clause-held : goal.returns-clause-held
unfolding returns-clause-bailed
returns-clause-held g c = λ ps outer h. bailed_held c.args.winds.items c.args.self.now _ _ (returns-clause-bailed g c) (order_ours c.args.self.now.stack c.args.self.now.graph c.args.winds.items _ c.in_ok-sort_by_key.ensures.permutation c.requires.ours) ps outer h

pub returns-clause-work : goal.returns-clause-work
unfolding returns-clause-bailed
returns-clause-work g c = λ ps. bailed_work c.args.winds.items c.args.self.now _ _ (returns-clause-bailed g c) (order_ours c.args.self.now.stack c.args.self.now.graph c.args.winds.items _ c.in_ok-sort_by_key.ensures.permutation c.requires.ours) ps

pub returns-clause-paid : goal.returns-clause-paid
unfolding returns-clause-bailed
returns-clause-paid g c = λ ps call. bailed_paid c.args.winds.items c.args.self.now _ _ (returns-clause-bailed g c) (order_ours c.args.self.now.stack c.args.self.now.graph c.args.winds.items _ c.in_ok-sort_by_key.ensures.permutation c.requires.ours) ps call

pub returns-clause-frames : goal.returns-clause-frames
unfolding returns-clause-bailed
returns-clause-frames g c = bailed_frames c.args.winds.items c.args.self.now _ _ (returns-clause-bailed g c) (order_ours c.args.self.now.stack c.args.self.now.graph c.args.winds.items _ c.in_ok-sort_by_key.ensures.permutation c.requires.ours)

pub returns-clause-rooted : goal.returns-clause-rooted
unfolding returns-clause-bailed
returns-clause-rooted g c = λ root r. bailed_rooted root c.args.winds.items c.args.self.now _ _ (returns-clause-bailed g c) (order_ours c.args.self.now.stack c.args.self.now.graph c.args.winds.items _ c.in_ok-sort_by_key.ensures.permutation c.requires.ours) r
