-- What Publish and Close share.
use Rattle.std.proofs.Common.{◌≡◌, ◌≢◌, ℕ, suc, Option, None, arith}
use Rattle.am_cast.specs.declared.views.Tail.{Tail}
use Rattle.am_cast.specs.declared.views.Account.{Account}
use Rattle.am_cast.specs.declared.views.WriterView.{WriterView}
use Rattle.am_cast.specs.declared.views.LaneView.{LaneView}
use Rattle.am_cast.specs.Rule.{live, HasWriter, HasLane}
use Rattle.am_cast.specs.Changes.{grown_as, grown}

module _ {K A : Type 0} where
  pub grown_live : (b : Account K A) → b.stand ≡ live → grown b ≡ record b { stop = suc b.stop; laid = None }
  grown_live b e = λ i. grown_as (e i) b

  grown_else_as : (n : ℕ) (b : Account K A) → n ≢ live → grown_as n b ≡ b
  grown_else_as n b ne = grind arith

  pub grown_else : (b : Account K A) → b.stand ≢ live → grown b ≡ b
  grown_else b ne = grown_else_as b.stand b ne

module _ {B K A : Type 0} (key : B → ℕ → K) where
  pub others_writer : (t t' : Tail B) (seat : ℕ) (account account' : ℕ → Account K A) (lane : ℕ → LaneView B A) (lane_seat : ℕ → ℕ) (j : ℕ) → j ≢ seat → (dk : Option (WriterView B K A)) → HasWriter t seat account lane lane_seat j dk → HasWriter t' seat account' lane lane_seat j dk
  others_writer t t' seat account account' lane lane_seat j ne dk k = grind arith

  pub any_lane : (t t' : Tail B) (seat : ℕ) (account account' : ℕ → Account K A) (lane : ℕ → LaneView B A) (lane_seat : ℕ → ℕ) (j : ℕ) → (ln : Option (LaneView B A)) → HasLane t seat account lane lane_seat j ln → HasLane t' seat account' lane lane_seat j ln
  any_lane t t' seat account account' lane lane_seat j ln k = grind arith
