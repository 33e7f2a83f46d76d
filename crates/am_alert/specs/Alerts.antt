-- How an alert is stored in models: as the tuple of its fields.
use Rattle.std.specs.Prelude.{ℕ, Bool, List, refl}
use Rattle.std.specs.Coded.{Coded, code_by, coded×, coded_ℕ, coded_bool, coded_list}
use Rattle.am_labels.specs.LabelSets.{Labels, coded_labels}
use Rattle.am_alert.specs.declared.alert.Alert.{Alert}

-- an alert as the tuple of its fields, in which models store it
abbrev pub coded_alert : Coded Alert
coded_alert =
    code_by (Labels × (Labels × (ℕ × (ℕ × (ℕ × (Bool × List ℕ))))))
    (coded× coded_labels (coded× coded_labels
    (coded× coded_ℕ (coded× coded_ℕ (coded× coded_ℕ (coded× coded_bool (coded_list coded_ℕ)))))))
    (λ a. (a.labels, (a.annotations, (a.start, (a.end, (a.updated, (a.timeout, a.generator)))))))
    (λ p. record {
      labels = p.0;
      annotations = p.1.0;
      start = p.1.1.0;
      end = p.1.1.1.0;
      updated = p.1.1.1.1.0;
      timeout = p.1.1.1.1.1.0;
      generator = p.1.1.1.1.1.1;
    })
    (λ _. refl)
