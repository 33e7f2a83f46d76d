-- A subscription to which nothing is left has taken its due.
use Rattle.std.proofs.Common.{◌≡◌, ◌∙◌, ℕ, zero, suc, ◌-◌, List, [], ◌∷◌, ◌++◌, length, take, drop, sym, ap, arith}
use Rattle.std.proofs.lemmas.Grind.{flat_map-append}
use Rattle.std.proofs.lemmas.List.{append_assoc, map-append, drop-map, take_all}
use Rattle.am_alert.specs.declared.alert.Alert.{Alert}
use Rattle.am_cast.specs.Cursors as cast
use Rattle.am_cast.specs.Keys.{all_items, batch_items}
use Rattle.am_cast.proofs.Cursors.{shown_all}
use Rattle.am_store.specs.Broadcast.{items_of}
use Rattle.am_provider.specs.Batches.{Batch, sent_in}
use Rattle.am_provider.specs.Histories.{sent_by}
use Rattle.am_provider.specs.Owing.{PendingOwesNothing}
use Rattle.am_provider.specs.Subscriptions.{SubscriptionView, taken}
use Rattle.am_provider.proofs.Calls.{items_alike}

dropped : {X : Type 0} (n : ℕ) (xs ys : List X) → drop n (xs ++ ys) ≡ drop n xs ++ drop (n - length xs) ys
dropped zero xs ys = let none : 0 - length xs ≡ 0 = omega arith in ap (λ k. xs ++ drop k ys) (sym none)
dropped (suc n) [] ys = let all : suc n - 0 ≡ suc n = omega arith in ap (λ k. drop k ys) (sym all)
dropped (suc n) (x ∷ xs) ys = let same : n - length xs ≡ suc n - suc (length xs) = omega arith in dropped n xs ys ∙ ap (λ k. drop n xs ++ drop k ys) same

-- all that a log sent out from a place on, by what it sent
from_on : (start : ℕ) (log : List Batch) → all_items (drop start log) ≡ items_of (drop start (sent_in log))
from_on start log = items_alike (drop start log) ∙ ap items_of (sym (drop-map (λ (y : Batch). batch_items y) start log))

pub pending_owes_nothing : PendingOwesNothing
pending_owes_nothing before noted was old new due sent opening start shows first =
    let none = shows.0 in
    let pending = shows.1 in
    let same : new.opening ≡ old.opening = ap (λ (s : SubscriptionView). s.opening) none.rest in
    let shown : new.shown ≡ length new.opening = ap (λ (s : SubscriptionView). s.shown) none.rest ∙ (none.shown ∙ ap length (sym same)) in
    let front = new.cursor.lane.front in
    let from = was.cursor.lane.start in
    let more = items_of (drop (from - length (sent_by before)) (sent_in first.0)) in
    let log : sent_in front ≡ sent_by before ++ sent_in first.0 =
    ap sent_in (sym first.1) ∙ (map-append (λ (y : Batch). batch_items y) noted first.0 ∙ ap (λ xs. xs ++ sent_in first.0) sent) in
    let items : cast.shown_items new.cursor ≡ items_of (drop from (sent_by before)) ++ more =
    shown_all new.cursor pending.all
    ∙ (from_on new.cursor.lane.start front
    ∙ (ap (λ n. items_of (drop n (sent_in front))) (none.on.3 ∙ start)
    ∙ (ap (λ xs. items_of (drop from xs)) log
    ∙ (ap items_of (dropped from (sent_by before) (sent_in first.0))
    ∙ flat_map-append (λ (batch : List Alert). batch) (drop from (sent_by before)) (drop (from - length (sent_by before)) (sent_in first.0)))))) in
    let all : taken new ≡ was.opening ++ (items_of (drop from (sent_by before)) ++ more) =
    ap (λ xs. xs ++ cast.shown_items new.cursor) (ap (λ n. take n new.opening) shown ∙ (take_all (length new.opening) new.opening (omega arith) ∙ (same ∙ opening)))
    ∙ ap (λ xs. was.opening ++ xs) items in
    (more, ap (λ xs. xs ++ more) due.owes ∙ (append_assoc was.opening (items_of (drop from (sent_by before))) more ∙ sym all))
