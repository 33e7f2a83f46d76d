-- A whole alert as `types.Alert` of Alertmanager is written, over the value that its JSON is: it carries the
-- moment of its report.
use Rattle.std.specs.Prelude.{false, ℕ, List, [], ◌∷◌, codes, Option, Some, option_and_then, option_map}
use Rattle.std.specs.Prelude.{filter}
use Rattle.serde_json.specs.Data.{Data, Items, no_items, item}
use Rattle.serde_json.specs.Find.{get, as_bool, as_str}
use Rattle.am_labels.specs.LabelSets.{last_holds}
use Rattle.am_posts.specs.Postables.{◌>>=◌, has_value, if_given, texts_of}
use Rattle.am_alert.specs.TimeTexts.{time_of}
use Rattle.am_alert.specs.declared.alert.Alert.{Alert}

-- a member that is a text
abbrev pub text_member : List ℕ → Data → Option (List ℕ)
text_member name d = option_and_then as_str (get name d)

-- the moment of a member, a time text that isn't absent
abbrev pub moment_at : List ℕ → Data → Option ℕ
moment_at name d = option_and_then (λ time. time) (option_and_then time_of (text_member name d))

-- the alert of an object's members, of which none is null: labels with an empty value are ignored, and what
-- may be missing is no annotation, a reported end and no generator
unfoldable pub alert_in : Data → Option Alert
alert_in d = do
  labels ← option_and_then texts_of (get (codes "labels") d)
  annotations ← if_given [] texts_of (get (codes "annotations") d)
  start ← moment_at (codes "startsAt") d
  finish ← moment_at (codes "endsAt") d
  updated ← moment_at (codes "updatedAt") d
  timeout ← if_given false as_bool (get (codes "timeout") d)
  generator ← if_given [] as_str (get (codes "generatorURL") d)
  Some (record {
    labels = last_holds (filter has_value labels);
    annotations = last_holds annotations;
    start = start;
    end = finish;
    updated = updated;
    timeout = timeout;
    generator = generator;
  })

-- the alerts of an array's elements
abbrev pub whole_alerts_in : Items → Option (List Alert)
whole_alerts_in no_items = Some []
whole_alerts_in (item d ds) =
    option_and_then (λ alert. option_map (λ rest. alert ∷ rest) (whole_alerts_in ds)) (alert_in d)
