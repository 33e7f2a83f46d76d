-- Reading the texts of an array one after another.
use Rattle.std.proofs.Common.{List, ◌++◌, Result, Ok, Err}
use Rattle.am_config.specs.declared.fault.ConfigFault.{ConfigFault}

-- elements that were read before others
abbrev pub with_front : {A : Type 0} → List A → Result (List A) ConfigFault → Result (List A) ConfigFault
with_front front (Ok rest) = Ok (front ++ rest)
with_front front (Err fault) = Err fault
