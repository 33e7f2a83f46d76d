-- The endings of subscriptions that were given back, and what memory has of them.
use Rattle.std.specs.Prelude.{◌≡◌, ℕ, ◌+◌, ◌≤◌, Bool, nat_le, List, length, map, filter}
use Rattle.am_store.specs.declared.past.Past.{Past}
use Rattle.am_store.specs.KeptJournals.{KeptView}
use Rattle.am_provider.specs.declared.answers.Ended.{Ended}

-- the endings that trims left, how many others there were, how many calls trims discarded, how many calls
-- memory has no more, and for how many endings more there is room
pub record EndingsView : Type 0 where
  pub endings : List Ended
  pub early : ℕ
  pub before : ℕ
  pub gone : ℕ
  pub room : ℕ

-- the endings that past values were
abbrev pub endings_in : List (Past Ended) → List Ended
endings_in pasts = map (λ (past : Past Ended). past.value) pasts

-- whether an ending's subscription came after at least `count` calls
abbrev pub is_since : ℕ → Ended → Bool
is_since count ended = nat_le count ended.at

-- memory has the endings of subscriptions whose Subscribed it has, and the number of the others
pub record AreHeld (all : List Ended) (before gone : ℕ) (held : List Ended) (others : ℕ) : Type 0 where
  pub few : before ≤ gone
  pub memory : held ≡ filter (is_since gone) all
  pub counted : others + length held ≡ length all

-- the endings are of a journal: trims discarded as many calls of both, and memory has both since one call
pub record AreEndingsOf (endings : EndingsView) (journal : KeptView) : Type 0 where
  pub before : endings.before ≡ journal.journal.before
  pub gone : endings.gone ≡ journal.gone
