use Rattle.std.proofs.Common.{◌≡◌, ◌++◌, length}
use Rattle.std.specs.Vec.Iter.{into_iter_items, into_iter_len}
use Rattle.am_store.specs.Shared.{alerts_in}
use Rattle.am_provider.proofs.sending.segment_of.Given as goal

abbrev pub invariant-loop-alert : goal.invariant-loop-alert
invariant-loop-alert g l = (l.segment.items ++ alerts_in (into_iter_items l.alerts) ≡ alerts_in l.fn.batch.items) × (l.segment.places ≡ length l.fn.batch.items)

abbrev pub decreases-loop-alert : goal.decreases-loop-alert
decreases-loop-alert g l = into_iter_len l.alerts
