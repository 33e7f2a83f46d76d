-- What some reports became, one after another.
use Rattle.std.proofs.Common.{◌≡◌, ℕ, ◌+◌, ◌<◌, List, [], ◌∷◌, ◌++◌, length, take, drop, set, get_or, refl, ap, sym, ◌∙◌, arith}
use Rattle.am_alert.specs.declared.alert.Alert.{Alert}
use Rattle.am_alert.specs.Merging.{absorbed}
use Rattle.std.proofs.lemmas.List.{append_assoc, drop-set-lt, drop_more, take_more_set}
use Rattle.am_store.specs.AlertList.{lookup, with_alert, with_alerts, batch_by_list}

pub with_alerts_last : (front : List Alert) (last : Alert) (olds : List Alert) → with_alerts (front ++ last ∷ []) olds ≡ with_alert last (with_alerts front olds)
with_alerts_last [] last olds = refl
with_alerts_last (a ∷ front) last olds = with_alerts_last front last (with_alert a olds)

-- one report more, in whose place is what it became
pub batch_more : (now : ℕ) (reports : List Alert) (at : ℕ) (new became : Alert) (olds : List Alert) → at < length reports → new ≡ get_or reports at new → became ≡ absorbed now (lookup new.labels olds) new
    → take (at + 1) (set reports at became) ++ batch_by_list now (drop (at + 1) (set reports at became)) (with_alert became olds) ≡ take at reports ++ batch_by_list now (drop at reports) olds
batch_more now reports at new became olds h here is =
    let later = drop (at + 1) reports in
    let first = take_more_set reports at became h in
    let rest = drop-set-lt (at + 1) reports at became (omega arith) in
    let left : drop at reports ≡ new ∷ later = drop_more reports at new h ∙ ap (λ a. a ∷ later) (sym here) in
    ap (λ front. front ++ batch_by_list now (drop (at + 1) (set reports at became)) (with_alert became olds)) first
    ∙ (ap (λ others. (take at reports ++ became ∷ []) ++ batch_by_list now others (with_alert became olds)) rest
    ∙ (append_assoc (take at reports) (became ∷ []) (batch_by_list now later (with_alert became olds))
    ∙ (ap (λ a. take at reports ++ a ∷ batch_by_list now later (with_alert a olds)) is ∙ ap (λ others. take at reports ++ batch_by_list now others olds) (sym left))))
