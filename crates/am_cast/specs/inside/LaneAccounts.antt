-- How what the running writer keeps of a lane agrees with what its seat knows of it.
use Rattle.std.specs.Prelude.{◌≡◌, ◌≢◌, ℕ, ◌+◌, ◌*◌, ◌/◌, ◌%◌, ◌≤◌, false}
use Rattle.am_cast.specs.declared.limits.TheConstants.{LONGEST_LOG}
use Rattle.am_cast.specs.declared.views.Account.{Account}
use Rattle.am_cast.specs.declared.writer.lane_account.LaneAccount.{LaneAccount}
use Rattle.am_cast.specs.declared.writer.lane_account.Stand.{Stand}
use Rattle.am_cast.specs.declared.writer.lane_account.Stand.TheVariants.{Idle, Live, Cut, Vacated}
use Rattle.am_cast.specs.Rule.{bit, cut, idle, live, vacated}
use Rattle.am_cast.specs.Changes.{retired}
use Rattle.am_cast.specs.Writers.{IsCalm}

-- the number of a standing in what contracts see of a lane
abbrev pub stand_number : Stand → ℕ
stand_number Idle = idle
stand_number Live = live
stand_number Cut = cut
stand_number Vacated = vacated

-- the account of a lane that was never given out
abbrev pub no_lane : LaneAccount
no_lane = record { stand = Idle; word = 0 }

-- what the seat knows of a lane is kept so: by its word as found last
pub record IsKeptAs {K A : Type 0} (b : Account K A) (a : LaneAccount) : Type 0 where
  pub stand_is : b.stand ≡ stand_number a.stand
  pub known_is : b.known ≡ a.word / 4
  pub live_is : b.stand ≡ live → a.word ≡ 2 * b.half
  -- a key that was in a cut lane's hand is away
  pub cut_is : b.stand ≡ cut → bit b.away ≡ a.word / 2 % 2
  pub rest_is : b.stand ≢ cut → b.away ≡ false
  pub bound : a.word ≤ 4 * LONGEST_LOG + 3

-- the lane of which the seat now knows b was kept as a, between two calls, and became idle then
abbrev pub WasIdled : {K A : Type 0} → ℕ → ℕ → Account K A → LaneAccount → Type 0
WasIdled {K = K} {A = A} n places b a = (c : Account K A) × IsKeptAs c a × IsCalm n places c × (b ≡ retired c)
