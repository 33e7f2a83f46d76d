-- The inhibition rules of a configuration (Alertmanager's configuration documentation,
-- "inhibit_rule"), over the value that its JSON is.
use Rattle.std.specs.Prelude.{ℕ, List, [], codes, Ok}
use Rattle.serde_json.specs.Data.{Data, Items}
use Rattle.am_matchers.specs.Matchers.{MatcherView}
use Rattle.am_config.specs.Paths.{member_path, item_path}
use Rattle.am_config.specs.Members.{array_member, texts_member}
use Rattle.am_config.specs.Readings.{Reading, Is, ◌>>=◌, each}
use Rattle.am_config.specs.MatcherReadings.{matchers_of}
use Rattle.am_config.specs.RouteReadings.{elements}
use Rattle.am_config.specs.RuleForms.{rule_form_of}
use Rattle.am_config.specs.declared.inhibit_rule.InhibitRule.{InhibitRule}

-- the matchers of a member, an array of texts; none if it is absent
unfoldable pub matchers_member : List ℕ → List ℕ → Data → Reading (List MatcherView)
matchers_member at name d = do
  texts ← Is (texts_member at name d)
  matchers_of (member_path at name) texts

-- a rule at a path
unfoldable pub rule_of : List ℕ → Data → Reading InhibitRule
rule_of at d = do
  form ← Is (rule_form_of at d)
  source ← matchers_member at (codes "source_matchers") d
  target ← matchers_member at (codes "target_matchers") d
  equal ← Is (texts_member at (codes "equal") d)
  Is (Ok (record { source = source; target = target; equal = equal }))

-- the rules of the array at a path, each read in its order
unfoldable pub rules_from : List ℕ → Items → Reading (List InhibitRule)
rules_from path items = each (λ i d. rule_of (item_path path i) d) 0 (elements items)

-- the rules of the whole; none if they are absent
unfoldable pub rules_of : Data → Reading (List InhibitRule)
rules_of d = do
  items ← Is (array_member [] (codes "inhibit_rules") d)
  rules_from (codes "inhibit_rules") items
