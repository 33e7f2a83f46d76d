-- The answers of reading a configuration, by how far it was read.
use Rattle.std.proofs.Common.{◌≡◌, ◌<◌, ℕ, true, false, List, [], ◌∷◌, length, arith, Option, Some, None, Result, Ok, Err, refl, ap}
use Rattle.std.specs.Prelude.{ok_or, is_some}
use Rattle.std.specs.declared.time.Duration.{Duration}
use Rattle.serde_json.specs.Data.{Data, Members}
use Rattle.serde_json.specs.Find.{as_object}
use Rattle.serde_json.specs.Read.{read}
use Rattle.serde_json.proofs.OnLiterals.{serde_json_on_literals}
use Rattle.am_config.specs.Members.{ReadsMember, of_kind}
use Rattle.am_config.specs.Readings.{Is, refused, goes_on, AllowsResult}
use Rattle.am_config.specs.Timeouts.{timeout_text_of}
use Rattle.am_config.specs.Configs.{timeout_from, timeout_of, config_of, IsJsonOf, IsConfigOf}
use Rattle.am_config.specs.RouteReadings.{root_reading}
use Rattle.am_config.specs.RuleReadings.{rules_of}
use Rattle.am_config.specs.declared.route.Route.{Route}
use Rattle.am_config.specs.declared.inhibit_rule.InhibitRule.{InhibitRule}
use Rattle.am_config.specs.declared.config.Config.{Config}
use Rattle.am_config.specs.declared.fault.ConfigFault.{ConfigFault}
use Rattle.am_config.specs.declared.fault.ConfigFault.TheVariants.{NoMemory, NoOperator, BadName, BadQuote, BadPattern, NotJson, Missing, Deprecated, RootMatchers, TooDeep, BadDuration, WrongKind}
use Rattle.am_config.proofs.Readings.{err_weaker, reads_err}

module _ (d : Data) where
  -- the text of the timeout is refused
  pub text_refused : (fault : ConfigFault) → ReadsMember (λ (text : Option (List ℕ)). text) (Err fault) (timeout_text_of d) → AllowsResult (timeout_of d) (Err fault)
  unfolding timeout_of
  text_refused fault h =
      err_weaker (Is (timeout_text_of d)) (timeout_of d) fault (λ r. refused r) (reads_err (λ (text : Option (List ℕ)). text) (timeout_text_of d) fault h)

  -- the text of the timeout is read
  pub text_read : (text : Option (List ℕ)) (result : Result Duration ConfigFault) → timeout_text_of d ≡ Ok text → timeout_from text result → timeout_of d result
  unfolding timeout_of
  text_read text result is_text h = goes_on is_text h

  -- the whole is no object
  pub no_object : as_object d ≡ None → config_of d (Err (WrongKind []))
  unfolding config_of
  no_object none = refused (ap (λ o. ok_or o (WrongKind [])) none)

  module _ (members : Members) (are_members : as_object d ≡ Some members) where
    object : of_kind as_object [] d ≡ Ok members
    object = ap (λ o. ok_or o (WrongKind [])) are_members

    pub timeout_refused : (fault : ConfigFault) → AllowsResult (timeout_of d) (Err fault) → AllowsResult (config_of d) (Err fault)
    unfolding config_of
    timeout_refused fault h = err_weaker (timeout_of d) (config_of d) fault (λ r. goes_on object (refused r)) h

    module _ (timeout : Duration) (is_timeout : timeout_of d (Ok timeout)) where
      pub root_refused : (fault : ConfigFault) → AllowsResult (root_reading d) (Err fault) → AllowsResult (config_of d) (Err fault)
      unfolding config_of
      root_refused fault h = err_weaker (root_reading d) (config_of d) fault (λ r. goes_on object (goes_on is_timeout (refused r))) h

      module _ (root : Route) (is_root : root_reading d (Ok root)) where
        pub rules_refused : (fault : ConfigFault) → AllowsResult (rules_of d) (Err fault) → AllowsResult (config_of d) (Err fault)
        unfolding config_of
        rules_refused fault h = err_weaker (rules_of d) (config_of d) fault (λ r. goes_on object (goes_on is_timeout (goes_on is_root (refused r)))) h

        pub config_read : (rules : List InhibitRule) → rules_of d (Ok rules) → config_of d (Ok (record { resolve_timeout = timeout; tree = record { root = root }; rules = rules }))
        unfolding config_of
        config_read rules are_rules = goes_on object (goes_on is_timeout (goes_on is_root (goes_on are_rules refl)))

-- bytes that are JSON are some
some_bytes : (bytes : List ℕ) (d : Data) → read bytes ≡ Some d → 0 < length bytes
unfolding serde_json_on_literals
some_bytes [] d e = grind arith
some_bytes (b ∷ bytes) d e = omega arith

-- the answer of a value is that of its bytes
pub of_json : (bytes : List ℕ) (d : Data) (result : Result Config ConfigFault) → IsJsonOf bytes d → AllowsResult (config_of d) result → IsConfigOf bytes result
of_json bytes d (Ok config) json h = (d, json, h)
of_json bytes d (Err NoMemory) json h = some_bytes bytes d json.1
of_json bytes d (Err (NoOperator at)) json h = (d, json, h)
of_json bytes d (Err (BadName at)) json h = (d, json, h)
of_json bytes d (Err (BadQuote at)) json h = (d, json, h)
of_json bytes d (Err (BadPattern at)) json h = (d, json, h)
of_json bytes d (Err NotJson) json h = absurd h
of_json bytes d (Err (Missing at)) json h = (d, json, h)
of_json bytes d (Err (Deprecated at)) json h = (d, json, h)
of_json bytes d (Err RootMatchers) json h = (d, json, h)
of_json bytes d (Err TooDeep) json h = (d, json, h)
of_json bytes d (Err BadDuration) json h = (d, json, h)
of_json bytes d (Err (WrongKind at)) json h = (d, json, h)

-- what a test of an option tells
pub some_of : {A : Type 0} (o : Option A) → is_some o ≡ true → (x : A) × (o ≡ Some x)
some_of None is = absurd (cc)
some_of (Some x) is = (x, refl)

pub none_of : {A : Type 0} (o : Option A) → is_some o ≡ false → o ≡ None
none_of None is = refl
none_of (Some x) is = absurd (cc)
