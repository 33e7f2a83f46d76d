-- What a publish makes of the writer: each live lane gets its key of the next place, and then the place is
-- there.
use Rattle.std.specs.Prelude.{◌≡◌, ℕ, zero, suc, ◌<◌, ◌≤◌, [], ◌∷◌, length, Some, true}
use Rattle.am_cast.specs.declared.limits.TheConstants.{LANES}
use Rattle.am_cast.specs.declared.views.Account.{Account}
use Rattle.am_cast.specs.declared.views.WriterView.{WriterView}
use Rattle.am_cast.specs.declared.views.View.{View}
use Rattle.am_cast.specs.Rule.{live, cut, blank}
use Rattle.am_cast.specs.Changes.{laying, own_at}
use Rattle.am_cast.specs.Seats.{account_of}

module _ {B K A : Type 0} where
  -- the places of the slots are those that the next place needs
  abbrev pub AreReady : WriterView B K A → Type 0
  AreReady q = (length q.accounts ≡ LANES) × ((l : ℕ) → l < LANES
      → ((account_of q l).stand ≡ live → ((account_of q l).cleared ≤ (account_of q l).stop)
      × ((account_of q l).stop ≡ length q.tail.log))
      × ((account_of q l).stop ≤ length q.tail.log) × ((account_of q l).away ≡ true
      → ((account_of q l).stand ≡ cut) × ((account_of q l).known < length q.tail.log)))

  -- a view that owns one place
  abbrev pub owner_of : ℕ → B → View B K A
  owner_of place x = record blank { own = own_at place x ∷ [] }

  module _ (key : B → ℕ → K) where
    -- the lane's slot of the next place is filled, if the lane is live
    abbrev pub filled_as : ℕ → B → ℕ → Account K A → Account K A
    filled_as (suc zero) x l b = laying (key x l) b
    filled_as _ x l b = b

    -- of the writer q the lanes below k are filled
    abbrev pub FilledTo : WriterView B K A → B → ℕ → WriterView B K A → Type 0
    FilledTo q x k q' = (q'.tail ≡ q.tail) × (length q'.accounts ≡ LANES)
        × ((l : ℕ) → l < LANES → (l < k
        → account_of q' l ≡ filled_as (account_of q l).stand x l (account_of q l))
        × (k ≤ l → account_of q' l ≡ account_of q l))

    -- every live lane has its key of the next place
    abbrev pub AllLaid : WriterView B K A → B → Type 0
    AllLaid q x = (l : ℕ) → l < length q.accounts → ((account_of q l).out ≡ 0)
        × ((account_of q l).stand ≡ live → (account_of q l).laid ≡ Some (key x l))
