-- What always holds of a text that is being read.
use Rattle.std.specs.Prelude.{◌≡◌, ℕ, List, length, count_by}
use Rattle.std.specs.List.{after_last}
use Rattle.am_script.specs.Inputs.{HasExcess}
use Rattle.am_script.specs.Script.{is_line_feed}

-- how many lines of a text have ended, and how many bytes follow the last of these; no limit is exceeded
pub record CountsLines (text : List ℕ) (ended last : ℕ) : Type 0 where
  pub feeds : ended ≡ count_by is_line_feed text
  pub open_bytes : last ≡ length (after_last is_line_feed text)
  pub within : ¬ HasExcess text
