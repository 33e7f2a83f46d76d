-- When two alerts are the same.
use Rattle.std.proofs.Common.{◌≡◌, ◌∙◌, ◌&&◌, eqb, Bool, true, false, refl, ap}
use Rattle.std.specs.Bool.{Decides}
use Rattle.std.specs.Cmp.{booleans_Decides, unsigned_Decides}
use Rattle.std.specs.Cmp.Lexicographic.{pointwise_decides}
use Rattle.am_alert.specs.declared.alert.Alert.{Alert}
use Rattle.am_labels.specs.LabelLaws.{labels_decide}
use Rattle.am_labels.specs.LabelSets.{same_labels}
use Rattle.am_labels.specs.Texts.{same_text}
use mathlib.Core.Bool.{beq}

-- both hold exactly where both are true
both_decide : {P Q : Type 0} (a b : Bool) → Decides a P → Decides b Q → Decides (a && b) (P × Q)
both_decide true b p q = (λ h. (p.0 refl, q.0 h), λ both. q.1 both.1)
both_decide false b p q = (λ h. absurd (cc), λ both. p.1 both.0)

-- the parts of two alerts are the same
abbrev Parts : Alert → Alert → Type 0
Parts a b = (a.labels ≡ b.labels) × ((a.annotations ≡ b.annotations) × ((a.start ≡ b.start)
    × ((a.end ≡ b.end) × ((a.updated ≡ b.updated) × ((a.timeout ≡ b.timeout) × (a.generator ≡ b.generator))))))

-- what `==` computes of two alerts
abbrev pub same_alerts : Alert → Alert → Bool
same_alerts a b = same_labels a.labels b.labels && (same_labels a.annotations b.annotations && (eqb a.start b.start
    && (eqb a.end b.end && (eqb a.updated b.updated && (beq a.timeout b.timeout && same_text a.generator b.generator)))))

parts_decide : (a b : Alert) → Decides (same_alerts a b) (Parts a b)
parts_decide a b =
    both_decide _ _ (labels_decide a.labels b.labels) (both_decide _ _ (labels_decide a.annotations b.annotations)
    (both_decide _ _ (unsigned_Decides a.start b.start) (both_decide _ _ (unsigned_Decides a.end b.end)
    (both_decide _ _ (unsigned_Decides a.updated b.updated) (both_decide _ _ (booleans_Decides a.timeout b.timeout)
    (pointwise_decides unsigned_Decides a.generator b.generator))))))

same_parts : (a b : Alert) → Parts a b → a ≡ b
same_parts a b is =
    let one : Alert = record a { labels = b.labels } in
    let two : Alert = record one { annotations = b.annotations } in
    let three : Alert = record two { start = b.start } in
    let four : Alert = record three { end = b.end } in
    let five : Alert = record four { updated = b.updated } in
    let six : Alert = record five { timeout = b.timeout } in
    ap (λ it. record a { labels = it }) is.0 ∙ (ap (λ it. record one { annotations = it }) is.1.0
    ∙ (ap (λ it. record two { start = it }) is.1.1.0 ∙ (ap (λ it. record three { end = it }) is.1.1.1.0
    ∙ (ap (λ it. record four { updated = it }) is.1.1.1.1.0 ∙ (ap (λ it. record five { timeout = it }) is.1.1.1.1.1.0
    ∙ ap (λ it. record six { generator = it }) is.1.1.1.1.1.1)))))

parts_of : (a b : Alert) → a ≡ b → Parts a b
parts_of a b is = (
  ap (λ (it : Alert). it.labels) is,
  (
    ap (λ (it : Alert). it.annotations) is,
    (
      ap (λ (it : Alert). it.start) is,
      (
        ap (λ (it : Alert). it.end) is,
        (ap (λ (it : Alert). it.updated) is, (ap (λ (it : Alert). it.timeout) is, ap (λ (it : Alert). it.generator) is)),
      ),
    ),
  ),
)

-- `==` is true exactly of alerts that are the same
pub alerts_decide : (a b : Alert) → Decides (same_alerts a b) (a ≡ b)
alerts_decide a b = (λ t. same_parts a b ((parts_decide a b).0 t), λ is. (parts_decide a b).1 (parts_of a b is))
