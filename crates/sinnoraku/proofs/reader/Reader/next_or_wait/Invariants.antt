use Rattle.std.proofs.Common.{◌≡◌}
use Rattle.am_provider.specs.Showings.{StaysShown}
use Rattle.sinnoraku.proofs.reader.Reader.next_or_wait.Given as goal

abbrev pub invariant-loop-turn : goal.invariant-loop-turn
invariant-loop-turn g l =
    (goal.iterator-loop-turn g).can_next l._turn-iterator ×
    (goal.iterator-loop-turn g).is_finite l._turn-iterator ×
    StaysShown l.fn.self.subscription l.self.subscription ×
    (l.self.provider ≡ l.fn.self.provider)
