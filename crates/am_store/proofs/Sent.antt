-- What is sent out answers what was posted.
use Rattle.std.proofs.Common.{◌≡◌, ℕ, List, [], ◌∷◌, ◌++◌, map, length, Option, None, Some, IfSome, refl, ap, ◌∙◌, arith}
use Rattle.am_alert.specs.declared.alert.Alert.{Alert}
use Rattle.am_labels.specs.LabelSets.{Labels}
use Rattle.am_store.specs.declared.call.Call.{Call}
use Rattle.am_store.specs.declared.call.Call.TheVariants.{Posted, Collected, Subscribed, Left, Closed}
use Rattle.am_store.specs.Stored.{Update, Report, updates_of, first_reports, Holding, holding_of, after_report}
use Rattle.am_store.specs.Broadcast.{batch_of, broadcast_from}
use Rattle.am_store.specs.Laws.{BatchesAnswerPosts, labels_of_batch, posted_labels}
use Rattle.am_store.proofs.Stored.{held_own, absorbed_labels, Sits, sits}

-- a report leaves an alert of its own label set
after_own : (holding : Option Holding) (at now : ℕ) (new : Alert) (count : ℕ) → IfSome holding (Sits new.labels count) → (after_report at now new holding).alert.labels ≡ new.labels
after_own None at now new count there = refl
after_own (Some holding) at now new count there = absorbed_labels now holding.alert new there.own

batch_labels : (before : List Update) (now : ℕ) (news : List Alert) → labels_of_batch (batch_of before now news) ≡ labels_of_batch news
batch_labels before now [] = refl
batch_labels before now (new ∷ news) =
    let holds : holding_of new.labels (before ++ Report now new ∷ []) ≡ Some (after_report (length before) now new (holding_of new.labels before)) = held_own before now new in
    let own : (after_report (length before) now new (holding_of new.labels before)).alert.labels ≡ new.labels = after_own (holding_of new.labels before) (length before) now new (length before) (sits new.labels before) in
    let rest = batch_labels (before ++ Report now new ∷ []) now news in
    grind (arith)

pub from_calls : (before : List Update) (calls : List Call) → map labels_of_batch (broadcast_from before calls) ≡ posted_labels calls
from_calls before [] = refl
from_calls before (Posted now [] ∷ calls) = from_calls (before ++ []) calls
from_calls before (Posted now (alert ∷ alerts) ∷ calls) =
    ap (λ (labels : List Labels). labels ∷ map labels_of_batch (broadcast_from (before ++ updates_of (Posted now (alert ∷ alerts))) calls)) (batch_labels before now (alert ∷ alerts))
    ∙ ap (λ rest. labels_of_batch (alert ∷ alerts) ∷ rest) (from_calls (before ++ updates_of (Posted now (alert ∷ alerts))) calls)
from_calls before (Collected now ∷ calls) = from_calls (before ++ updates_of (Collected now)) calls
from_calls before (Subscribed lane ∷ calls) = from_calls (before ++ []) calls
from_calls before (Left lane ∷ calls) = from_calls (before ++ []) calls
from_calls before (Closed ∷ calls) = from_calls (before ++ []) calls

pub batches_answer_posts : BatchesAnswerPosts
batches_answer_posts journal = from_calls (first_reports journal.store) journal.calls
