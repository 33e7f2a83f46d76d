-- Adding bytes to a text.
use Rattle.std.specs.Prelude.{◌≡◌, ℕ, List, ◌++◌}
use Rattle.am_script.specs.Inputs.{HasExcess}
use Rattle.am_script.specs.declared.line_counter.Intake.{Intake}
use Rattle.am_script.specs.declared.line_counter.Intake.TheVariants.{More, Full}

-- bytes were added to the text: all of them, or those up to one that exceeds a limit
abbrev pub TakesIn : List ℕ → List ℕ → Intake → Type 0
TakesIn old bytes (More new) = new ≡ old ++ bytes
TakesIn old bytes (Full new) = HasExcess new.items
    × ((added : List ℕ) × (rest : List ℕ) × (added ++ rest ≡ bytes) × (new.items ≡ old ++ added))
