-- An inhibitor, as contracts see it.
use Rattle.std.specs.Prelude.{ℕ, List, refl}
use Rattle.std.specs.Coded.{Coded, code_by, coded×, coded_list, coded_ℕ}
use Rattle.am_alert.specs.declared.alert.Alert.{Alert}
use Rattle.am_alert.specs.Alerts.{coded_alert}
use Rattle.am_config.specs.declared.inhibit_rule.InhibitRule.{InhibitRule}

-- its rules, the alerts that it keeps, and how many candidates it examined for its last answer
pub record InhibitorView : Type 0 where
  pub rules : List InhibitRule
  pub alerts : List Alert
  pub looked : ℕ

-- it is stored as the tuple of its fields
abbrev pub coded_inhibitor : Coded InhibitRule → Coded InhibitorView
coded_inhibitor rule =
    code_by (List InhibitRule × (List Alert × ℕ))
    (coded× (coded_list rule) (coded× (coded_list coded_alert) coded_ℕ))
    (λ i. (i.rules, (i.alerts, i.looked)))
    (λ p. record { rules = p.0; alerts = p.1.0; looked = p.1.1 }) (λ _. refl)

-- an inhibitor that examined that many candidates for its last answer
abbrev pub having_looked : ℕ → InhibitorView → InhibitorView
having_looked count inhibitor = record inhibitor { looked = count }
