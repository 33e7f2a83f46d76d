use Rattle.std.proofs.Common.{◌≡◌, ℕ, ◌+◌, ◌≤◌, ◌++◌, List, length, vec_len, vec_capacity}
use Rattle.std.specs.Vec.Iter.{into_iter_items, into_iter_len}
use Rattle.am_alert.specs.declared.alert.Alert.{Alert}
use Rattle.am_store.specs.AlertMaps.{stored_in, AreKeptByLabels, all_taken_back}
use Rattle.am_store.specs.Judging.{AreJudged}
use Rattle.am_store.proofs.store.judge.judge_over.Given as goal

abbrev pub invariant-loop-new : goal.invariant-loop-new
invariant-loop-new g l = record {
  callable : goal.F-IsAlwaysCallable g l.accepts;
  judged : (done : List Alert) × (done ++ into_iter_items l.new-iterator ≡ l.fn.news) × ((last : _) (news others : List Alert) (rest : List ℕ)
      → AreJudged g.F.FnMut l.now last l.accepts (length l.accepted.items + length l.refused.items) (stored_in l.alerts.entries) news others rest
      → AreJudged g.F.FnMut l.now last l.fn.accepts 0 (stored_in l.fn.alerts.entries) (done ++ news) (l.accepted.items ++ others) (l.refused.items ++ rest));
  kept : AreKeptByLabels l.alerts.entries;
  back : all_taken_back l.changes.items l.alerts.entries ≡ l.fn.alerts.entries;
  left : into_iter_len l.new-iterator ≡ length (into_iter_items l.new-iterator);
  count : length l.accepted.items + length l.refused.items + into_iter_len l.new-iterator ≡ length l.fn.news;
  room : vec_len l.accepted + into_iter_len l.new-iterator ≤ vec_capacity l.accepted;
  space : vec_len l.refused + into_iter_len l.new-iterator ≤ vec_capacity l.refused;
  changes : vec_len l.changes + into_iter_len l.new-iterator ≤ vec_capacity l.changes;
}
