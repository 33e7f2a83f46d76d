-- The alerts of a command `put`, over the value that its JSON is: whole ones, as `--json` prints them.
use Rattle.std.specs.Prelude.{List, codes, Option, option_and_then}
use Rattle.serde_json.specs.Data.{Data}
use Rattle.serde_json.specs.Find.{get, as_array}
use Rattle.am_posts.specs.WholeAlerts.{whole_alerts_in}
use Rattle.am_alert.specs.declared.alert.Alert.{Alert}

-- the alerts in `alerts`
abbrev pub alerts_at : Data → Option (List Alert)
alerts_at d = option_and_then whole_alerts_in (option_and_then as_array (get (codes "alerts") d))
