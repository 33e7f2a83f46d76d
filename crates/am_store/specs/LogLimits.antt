-- How large a log can be.
use Rattle.std.specs.Prelude.{ℕ, ◌≤◌, List, length}
use Rattle.std.specs.List.{All}
use Rattle.am_alert.specs.declared.alert.Alert.{Alert}
use Rattle.am_alert.specs.declared.post.TheConstants.{MAX_ALERTS}

-- how many batches a log has at most: with 1,024 alerts in each and an opening before, a
-- subscription's alerts are fewer than 2^64
abbrev pub most_batches : ℕ
most_batches = 2251799813685248

-- a log within its limits: a batch has no more alerts than a post, and there are no more batches
-- than that
pub record IsWithinLogLimits (log : List (List Alert)) : Type 0 where
  pub batches : All (λ batch. length batch ≤ MAX_ALERTS) log
  pub places : length log ≤ most_batches
