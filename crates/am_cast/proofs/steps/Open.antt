-- A lane begins: the rule is kept.
use Rattle.std.proofs.Common.{◌≡◌, ℕ, List, [], ◌∷◌, length, get_or, set, refl, ap, ◌∙◌, Some, true, false, true≢false, arith}
use mathlib.Core.Option.{none}
use lib.Seq.{set-get_or}
use Rattle.atomic_table.specs.Table.{step, keeps, Allows}
use Rattle.am_cast.specs.declared.views.LaneView.{LaneView}
use Rattle.am_cast.specs.Rule.{lane_word, Ruled}
use Rattle.am_cast.specs.Changes.{with_lane, opened}
use Rattle.am_steps.specs.declared.event.Event.TheVariants as does
use Rattle.am_cast.proofs.Events.{open_lane, AllowsEvent}
use Rattle.am_cast.specs.Steps.{SeatState, Opens}
use Rattle.am_cast.proofs.Kept.{same_some, lane_ok, lane_stepped}
use Rattle.am_cast.proofs.Lanes.{to_lane}

module _ {B K A : Type 0} (key : B → ℕ → K) where
  -- the lane's word stays, and so do its slots
  pub opens_as : (slots id : ℕ) (me : SeatState B K A) (v : LaneView B A) → me.0.lane ≡ Some v → v.here ≡ true → v.begun ≡ false → AllowsEvent key slots id me (lane_word v.number) (λ n. n) (λ _. does.Open v.number ∷ []) (Opens (step slots (lane_word v.number) 0 0 none) me)
  opens_as slots id me v is here fresh s r deep at fits =
      let o = lane_ok key s r id me.0 v at is in let ok = o.4 in let sd = ok.sound in
      let words : List ℕ = set s.words (lane_word v.number) (get_or s.words (lane_word v.number) 0) in
      let same : words ≡ s.words = set-get_or s.words (lane_word v.number) 0 in (
        with_lane (opened v) me.0,
        keeps,
        tt,
        (let kept = lane_stepped key s r id me.0 v (opened v) words s.homes at is refl refl (ap length same) refl (ap (λ (l : List ℕ). get_or l 0 0) same) (λ m _. ap (λ (l : List ℕ). get_or l (lane_word m) 0) same) (λ m i a b. refl) record {
          sound = grind (arith, true≢false);
          word = ap (λ (l : List ℕ). get_or l (lane_word v.number) 0) same ∙ ok.word;
          keys = ok.keys;
          empty = ok.empty;
          laid = ok.laid;
          away = ok.away;
        } in (kept.0, grind (arith, open_lane, to_lane), refl)),
        (refl, λ u e. ap (λ (z : LaneView B A). with_lane (opened z) me.0) (same_some v u me.0.lane is e)),
      )

  pub opens : (slots id : ℕ) (me : SeatState B K A) (v : LaneView B A) → me.0.lane ≡ Some v → v.here ≡ true → v.begun ≡ false → Allows (Ruled key) slots id me (lane_word v.number) (λ n. n) (Opens (step slots (lane_word v.number) 0 0 none) me)
  opens slots id me v is here fresh s r deep at fits = let x = opens_as slots id me v is here fresh s r deep at fits in (x.0, x.1, x.2, x.3.0, x.4)
