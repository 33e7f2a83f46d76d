-- How much there can be for a subscription.
use Rattle.std.proofs.Common.{ℕ, ◌*◌, ◌^◌, length-append, length-drop, ◌<◌, ◌≤◌, List, [], ◌∷◌, ◌++◌, length, drop, suc, arith}
use Rattle.std.specs.List.{All}
use Rattle.std.proofs.lemmas.List.Elements.{All-drop}
use Rattle.am_alert.specs.declared.alert.Alert.{Alert}
use Rattle.am_alert.specs.declared.post.TheConstants.{MAX_ALERTS}
use Rattle.am_store.specs.Broadcast.{items_of}
use Rattle.am_store.specs.LogLimits.{most_batches, IsWithinLogLimits}

items_small : (batches : List (List Alert)) → All (λ batch. length batch ≤ MAX_ALERTS) batches → length (items_of batches) ≤ MAX_ALERTS * length batches
items_small [] short = omega arith
items_small (batch ∷ batches) short =
    let first : length batch ≤ MAX_ALERTS = short 0 batch (omega arith) in
    let others : length (items_of batches) ≤ MAX_ALERTS * length batches = items_small batches (λ k d h. short (suc k) d (omega arith)) in
    omega (arith, length-append batch (items_of batches), first, others)

-- memory bounds the opening, and the log's limits bound what comes after
pub all_small : (log : List (List Alert)) (start : ℕ) (opening : List Alert) → IsWithinLogLimits log → length opening < 2 ^ 63 → length (opening ++ items_of (drop start log)) < 2 ^ 64
all_small log start opening limits short =
    let since = items_small (drop start log) (All-drop (λ batch. length batch ≤ MAX_ALERTS) start log limits.batches) in
    let fewer : length (drop start log) ≤ length log = omega (arith, length-drop start log) in
    let places : length log ≤ most_batches = limits.places in
    omega (arith, length-append opening (items_of (drop start log)), since, fewer, places, short)
