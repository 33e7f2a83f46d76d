use Rattle.std.proofs.Common.{◌≡◌, ◌+◌, sym, subst, arith, rules}
use Rattle.std.specs.VecDeque.{deque_len}
use Rattle.am_store.specs.inside.Journals.{AreDropped}
use Rattle.am_store.proofs.Dropping.{next_at, one_dropped, next_lane, call_left}
use Rattle.am_store.proofs.journal.Journal.drop_first.Goals.{in-Some, in_default}
use Rattle.am_store.proofs.journal.Journal.drop_first.Goals as goal

pub count_dropped-requires-clause-lane : goal.count_dropped-requires-clause-lane
count_dropped-requires-clause-lane c =
    next_lane c.args.self.now c.loop.self c.loop.counter c.in-Some.call c.loop.invariant c.requires.legal
    (next_at c.args.self.now c.loop.self c.loop.counter c.in-Some.call c.pop_front.new.self.items c.loop.invariant c.in-Some.ensures.items)

pub loop-preserved : goal.loop-preserved
loop-preserved c =
    elim c.match-pop_front.branch [
      | in-Some w ↦
          subst (AreDropped c.args.self.now (c.loop.counter + 1)) (sym w.self-is)
          (one_dropped c.args.self.now c.loop.self w.count_dropped.new.self c.loop.counter w.in-Some.call c.pop_front.new.self c.loop.invariant w.in-Some.ensures.items w.in-Some.ensures.capacity w.count_dropped.ensures)
      | in_default w ↦
          let some = call_left c.args.self.now c.loop.self c.loop.counter c.args.count c.loop.invariant c.loop-test.true c.requires.within in
          let none : deque_len c.loop.self.calls ≡ 0 = search rules in
          absurd (omega (arith, some, none))
    ]
