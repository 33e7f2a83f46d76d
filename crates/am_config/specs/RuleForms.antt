-- The form of an inhibition rule (Alertmanager's configuration documentation, "inhibit_rule"), over the
-- value that its JSON is.
use Rattle.std.specs.Prelude.{ℕ, List, codes, Result, ⊤}
use Rattle.serde_json.specs.Data.{Data}
use Rattle.serde_json.specs.Find.{as_object}
use Rattle.am_config.specs.Members.{◌>>=◌, of_kind, deprecated_member}
use Rattle.am_config.specs.declared.fault.ConfigFault.{ConfigFault}

-- a rule is an object without members of the older form
unfoldable pub rule_form_of : List ℕ → Data → Result ⊤ ConfigFault
rule_form_of at d = do
  members ← of_kind as_object at d
  no_source_match ← deprecated_member at (codes "source_match") d
  no_source_match_re ← deprecated_member at (codes "source_match_re") d
  no_target_match ← deprecated_member at (codes "target_match") d
  deprecated_member at (codes "target_match_re") d
