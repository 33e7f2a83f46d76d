-- Instants, seen as the nanoseconds from 0001-01-01T00:00:00Z on, the instant that Go's zero time is.
use Rattle.std.specs.Prelude.{ℕ, ◌+◌, nat_lt, if◌then◌else◌, Option, Some, None}

-- how many instants there are: up to 9999-12-30T22:00:00.999999999Z, the last instant that jiff has
abbrev pub moments : ℕ
moments = 315_537_804_001_000_000_000

-- the instant that many nanoseconds later, if there is one
abbrev pub later : ℕ → ℕ → Option ℕ
later now nanoseconds = if nat_lt (now + nanoseconds) moments then Some (now + nanoseconds) else None
