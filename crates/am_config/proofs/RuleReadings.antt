-- The answers of reading an inhibition rule, by how far it was read.
use Rattle.std.proofs.Common.{◌≡◌, ℕ, List, [], Result, Ok, Err, refl, subst}
use Rattle.std.specs.Prelude.{codes, ⊤}
use Rattle.serde_json.specs.Data.{Data, Items}
use Rattle.am_matchers.specs.Matchers.{MatcherView}
use Rattle.am_config.specs.Paths.{member_path}
use Rattle.am_config.specs.Members.{ReadsMember, array_member, texts_member}
use Rattle.am_config.specs.Readings.{Is, refused, goes_on, AllowsResult}
use Rattle.am_config.specs.MatcherReadings.{matchers_of}
use Rattle.am_config.specs.RuleForms.{rule_form_of}
use Rattle.am_config.specs.RuleReadings.{matchers_member, rule_of, rules_from, rules_of}
use Rattle.am_config.specs.declared.inhibit_rule.InhibitRule.{InhibitRule}
use Rattle.am_config.specs.declared.fault.ConfigFault.{ConfigFault}
use Rattle.am_config.proofs.Readings.{err_weaker, reads_err}

-- a member's matchers
module _ (at name : List ℕ) (d : Data) where
  pub texts_refused : (fault : ConfigFault) → ReadsMember (λ (texts : List (List ℕ)). texts) (Err fault) (texts_member at name d) → AllowsResult (matchers_member at name d) (Err fault)
  unfolding matchers_member
  texts_refused fault h =
      err_weaker (Is (texts_member at name d)) (matchers_member at name d) fault (λ r. refused r) (reads_err (λ (texts : List (List ℕ)). texts) (texts_member at name d) fault h)

  module _ (texts : List (List ℕ)) (are_texts : texts_member at name d ≡ Ok texts) (path : List ℕ) (is_path : path ≡ member_path at name) where
    read_from : (result : Result (List MatcherView) ConfigFault) → matchers_of path texts result → matchers_member at name d result
    unfolding matchers_member
    read_from result h = goes_on are_texts (subst (λ p. matchers_of p texts result) is_path h)

    pub matchers_read : (result : Result (List MatcherView) ConfigFault) → AllowsResult (matchers_of path texts) result → AllowsResult (matchers_member at name d) result
    matchers_read (Ok matchers) h = read_from (Ok matchers) h
    matchers_read (Err fault) h = err_weaker (matchers_of path texts) (matchers_member at name d) fault (λ r. read_from (Err fault) r) h

-- a rule
module _ (at : List ℕ) (d : Data) where
  pub form_refused : (fault : ConfigFault) → ReadsMember (λ (none : ⊤). none) (Err fault) (rule_form_of at d) → AllowsResult (rule_of at d) (Err fault)
  unfolding rule_of
  form_refused fault h =
      err_weaker (Is (rule_form_of at d)) (rule_of at d) fault (λ r. refused r) (reads_err (λ (none : ⊤). none) (rule_form_of at d) fault h)

  module _ (form : ⊤) (is_form : rule_form_of at d ≡ Ok form) where
    pub source_refused : (fault : ConfigFault) → AllowsResult (matchers_member at (codes "source_matchers") d) (Err fault) → AllowsResult (rule_of at d) (Err fault)
    unfolding rule_of
    source_refused fault h =
        err_weaker (matchers_member at (codes "source_matchers") d) (rule_of at d) fault (λ r. goes_on is_form (refused r)) h

    module _ (source : List MatcherView) (is_source : matchers_member at (codes "source_matchers") d (Ok source)) where
      pub target_refused : (fault : ConfigFault) → AllowsResult (matchers_member at (codes "target_matchers") d) (Err fault) → AllowsResult (rule_of at d) (Err fault)
      unfolding rule_of
      target_refused fault h =
          err_weaker (matchers_member at (codes "target_matchers") d) (rule_of at d) fault (λ r. goes_on is_form (goes_on is_source (refused r))) h

      module _ (target : List MatcherView) (is_target : matchers_member at (codes "target_matchers") d (Ok target)) where
        pub equal_refused : (fault : ConfigFault) → ReadsMember (λ (texts : List (List ℕ)). texts) (Err fault) (texts_member at (codes "equal") d) → AllowsResult (rule_of at d) (Err fault)
        unfolding rule_of
        equal_refused fault h =
            err_weaker (Is (texts_member at (codes "equal") d)) (rule_of at d) fault
            (λ r. goes_on is_form (goes_on is_source (goes_on is_target (refused r))))
            (reads_err (λ (texts : List (List ℕ)). texts) (texts_member at (codes "equal") d) fault h)

        pub rule_read : (equal : List (List ℕ)) → texts_member at (codes "equal") d ≡ Ok equal
            → rule_of at d (Ok (record { source = source; target = target; equal = equal }))
        unfolding rule_of
        rule_read equal is_equal = goes_on is_form (goes_on is_source (goes_on is_target (goes_on is_equal refl)))

-- the rules of the whole
module _ (d : Data) where
  pub items_refused : (fault : ConfigFault) → ReadsMember (λ (items : Items). items) (Err fault) (array_member [] (codes "inhibit_rules") d) → AllowsResult (rules_of d) (Err fault)
  unfolding rules_of
  items_refused fault h =
      err_weaker (Is (array_member [] (codes "inhibit_rules") d)) (rules_of d) fault (λ r. refused r)
      (reads_err (λ (items : Items). items) (array_member [] (codes "inhibit_rules") d) fault h)

  module _ (items : Items) (are_items : array_member [] (codes "inhibit_rules") d ≡ Ok items) where
    rules_from_items : (result : Result (List InhibitRule) ConfigFault) → rules_from (codes "inhibit_rules") items result → rules_of d result
    unfolding rules_of
    rules_from_items result h = goes_on are_items h

    pub rules_read : (path : List ℕ) (result : Result (List InhibitRule) ConfigFault) → path ≡ codes "inhibit_rules"
        → AllowsResult (rules_from path items) result → AllowsResult (rules_of d) result
    rules_read path (Ok rules) is_path h = rules_from_items (Ok rules) (subst (λ p. rules_from p items (Ok rules)) is_path h)
    rules_read path (Err fault) is_path h =
        err_weaker (rules_from path items) (rules_of d) fault (λ r. rules_from_items (Err fault) (subst (λ p. rules_from p items (Err fault)) is_path r)) h
