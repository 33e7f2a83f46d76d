-- What the writer knows between two calls.
use Rattle.std.specs.Prelude.{◌≡◌, ◌≢◌, ℕ, ◌+◌, ◌/◌, ◌<◌, ◌≤◌, length, None, Bool, true, false}
use Rattle.am_cast.specs.declared.limits.TheConstants.{LANES}
use Rattle.am_cast.specs.declared.views.Account.{Account}
use Rattle.am_cast.specs.declared.views.WriterView.{WriterView}
use Rattle.am_cast.specs.Rule.{idle, live, cut, vacated}
use Rattle.am_cast.specs.Changes.{loaded, emptied}
use Rattle.am_cast.specs.Seats.{account_of}

-- an account between two calls of the writer
pub record IsCalm {K A : Type 0} (n places : ℕ) (b : Account K A) : Type 0 where
  pub out : b.out ≡ 0
  pub laid : b.laid ≡ None
  pub low : b.start ≤ b.known
  pub known : b.known ≤ n
  pub stops : b.stop ≤ n
  pub live_is : b.stand ≡ live → (b.cleared ≡ b.known) × (b.stop ≡ n) × (n ≤ b.known + places)
      × (b.half / 2 ≡ b.known) × (b.away ≡ false)
  pub rest_is : b.stand ≢ live → b.cleared ≡ b.stop
  pub away_is : b.away ≡ true → (b.stand ≡ cut) × (b.known < n) × (b.known < b.cleared)

-- the same admission of a lane, which was loaded as often or more, and has passed as much or more
abbrev pub SameAdmission : {K A : Type 0} → Account K A → Account K A → Type 0
SameAdmission b c = (c.turn ≡ b.turn) × (c.note ≡ b.note) × (c.start ≡ b.start) × (b.loads ≤ c.loads)
    × (b.known ≤ c.known)

-- a lane's standing is as before, except that a live lane may be found vacated. A cut one keeps the word at
-- which it was cut
abbrev pub StandsOn : {K A : Type 0} → Account K A → Account K A → Type 0
StandsOn b c = (c.stand ≢ b.stand → (b.stand ≡ live) × (c.stand ≡ vacated))
    × (b.stand ≡ cut → c.half ≡ b.half)

-- the same admission, and the standing changes at most so
abbrev pub StaysAs : {K A : Type 0} → Account K A → Account K A → Type 0
StaysAs b c = SameAdmission b c × StandsOn b c

-- whether the lane was cut between two moments, in a log of n places: only if it lagged by `places` batches,
-- by the word at which it was cut. It is the lag that tokio's `broadcast::Receiver` reports as `Lagged`
abbrev pub IsCutAs : {K A : Type 0} → ℕ → ℕ → Account K A → Account K A → Bool → Type 0
IsCutAs n places b c true = (b.stand ≡ live) × (c.stand ≡ cut) × (n ≡ c.known + places)
    × (c.half / 2 ≡ c.known)
IsCutAs n places b c false = StandsOn b c

-- whether a lane was found left: then it is idle, and all its keys are home. Any other that is given out was
-- looked at, and nothing else has changed
abbrev pub IsReclaimedAs : {K A : Type 0} → Account K A → Account K A → Bool → Type 0
IsReclaimedAs b c true = (b.stand ≢ idle) × (c ≡ emptied b)
IsReclaimedAs b c false = (b.stand ≡ idle → c ≡ b) × (b.stand ≢ idle → c ≡ loaded b)

module _ {B K A : Type 0} where
  -- each account is as between two calls
  abbrev pub Calm : WriterView B K A → Type 0
  Calm q = (length q.accounts ≡ LANES) × ((l : ℕ) → l < LANES
      → IsCalm (length q.tail.log) q.tail.places (account_of q l))

  -- no lane is given out
  abbrev pub IsIdle : WriterView B K A → Type 0
  IsIdle q = (l : ℕ) → l < LANES → (account_of q l).stand ≡ idle

  -- each live lane was looked at, and each whose key is away
  abbrev pub AreLoaded : WriterView B K A → WriterView B K A → Type 0
  AreLoaded q q' = (l : ℕ) → l < LANES
      → ((account_of q l).stand ≡ live → (account_of q l).loads < (account_of q' l).loads)
      × ((account_of q l).away ≡ true → (account_of q l).loads < (account_of q' l).loads)

  -- the live lanes below k have room for one place more
  abbrev pub HasRoom : WriterView B K A → ℕ → Type 0
  HasRoom q k = (l : ℕ) → l < k → (account_of q l).stand ≡ live
      → length q.tail.log < (account_of q l).known + q.tail.places

  -- the lane is live and lags by `places` batches: the test for a full ring of crossbeam's `start_send`
  abbrev pub IsBehind : WriterView B K A → ℕ → Type 0
  IsBehind q l = ((account_of q l).stand ≡ live)
      × (length q.tail.log ≡ (account_of q l).known + q.tail.places)

  -- of the lanes below k only what is known has changed. Each live one was looked at, and each cut one whose
  -- key is away
  pub record Harvested (q q' : WriterView B K A) (k : ℕ) : Type 0 where
    pub tail : q'.tail ≡ q.tail
    pub each : (l : ℕ) → l < LANES → StaysAs (account_of q l) (account_of q' l)
    pub below : (l : ℕ) → l < k → (account_of q l).stand ≡ live
        → (account_of q l).loads < (account_of q' l).loads
    pub aways : (l : ℕ) → l < k → (account_of q l).away ≡ true
        → (account_of q l).loads < (account_of q' l).loads
    pub above : (l : ℕ) → k ≤ l → account_of q' l ≡ account_of q l
