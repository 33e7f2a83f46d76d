-- A matcher's fault as one of the configuration. Only code of this crate cites it.
use Rattle.std.specs.Prelude.{ℕ, List}
use Rattle.am_matchers.specs.declared.match_fault.MatchFault.{MatchFault}
use Rattle.am_matchers.specs.declared.match_fault.MatchFault.TheVariants as match_fault
use Rattle.am_config.specs.declared.fault.ConfigFault.{ConfigFault}
use Rattle.am_config.specs.declared.fault.ConfigFault.TheVariants.{NoMemory, NoOperator, BadName, BadQuote}
use Rattle.am_config.specs.declared.fault.ConfigFault.TheVariants.{BadPattern}

-- the fault with the path of the matcher's text
abbrev pub fault_at : MatchFault → List ℕ → ConfigFault
fault_at match_fault.NoMemory at = NoMemory
fault_at match_fault.NoOperator at = NoOperator at
fault_at match_fault.BadName at = BadName at
fault_at match_fault.BadQuote at = BadQuote at
fault_at match_fault.BadPattern at = BadPattern at
