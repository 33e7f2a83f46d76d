use Rattle.std.proofs.Common.{◌≡◌, ◌<◌, ℕ, length}
use Rattle.std.specs.Prelude.{slice_index}
use Rattle.am_cast.specs.declared.limits.TheConstants.{WORDS}
use Rattle.am_cast.specs.Rule.{gone, lane_word}
use Rattle.am_cast.proofs.parts.first_words.Given as goal

abbrev pub invariant-loop-lane : goal.invariant-loop-lane
invariant-loop-lane l = (length l.words ≡ WORDS) × (slice_index l.words 0 ≡ 0) × ((m : ℕ) → m < l.lane → slice_index l.words (lane_word m) ≡ gone)
