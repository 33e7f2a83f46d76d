-- A lane looks how long the log is.
use Rattle.std.proofs.Common.{◌≡◌, ℕ, ◌≤◌, List, [], ◌∷◌, length, get_or, set, refl, ap, ◌∙◌, subst, arith, Some, true, true≢false}
use mathlib.Core.Option.{none}
use mathlib.Core.List.{IsPrefix}
use lib.Seq.{set-get_or}
use Rattle.atomic_table.specs.Table.{step, keeps, Allows}
use Rattle.am_cast.specs.declared.views.Tail.{Tail}
use Rattle.am_cast.specs.declared.views.LaneView.{LaneView}
use Rattle.am_cast.specs.Rule.{lane_word, Ruled}
use Rattle.am_cast.specs.Changes.{with_lane, seeing}
use Rattle.am_steps.specs.declared.event.Event.TheVariants as does
use Rattle.am_cast.proofs.Events.{look, AllowsEvent}
use Rattle.am_cast.specs.Steps.{SeatState, Looks}
use Rattle.am_cast.proofs.Slots.{prefix_self, prefix_length}
use Rattle.am_cast.proofs.Kept.{same_some, lane_ok, lane_stepped}
use Rattle.am_cast.proofs.Lanes.{to_lane}

module _ {B K A : Type 0} (key : B → ℕ → K) where
  pub looks_as : (slots id : ℕ) (me : SeatState B K A) (v : LaneView B A) → me.0.lane ≡ Some v → v.begun ≡ true → AllowsEvent key slots id me 0 (λ n. n) (λ _. does.Look v.number ∷ []) (Looks (step slots 0 0 0 none) me)
  looks_as slots id me v is begun s r deep at fits =
      let o = lane_ok key s r id me.0 v at is in let ok = o.4 in let sd = ok.sound in let t : Tail B = r.tail in
      let w : LaneView B A = seeing t.log t.closed v in
      let long : length v.front ≤ length t.log = prefix_length v.front t.log sd.seen.begins in
      let high = sd.seen.high in
      let words : List ℕ = set s.words 0 (get_or s.words 0 0) in
      let same : words ≡ s.words = set-get_or s.words 0 0 in (
        with_lane w me.0,
        keeps,
        tt,
        (let kept = lane_stepped key s r id me.0 v w words s.homes at is refl refl (ap length same) refl (ap (λ (l : List ℕ). get_or l 0 0) same) (λ m _. ap (λ (l : List ℕ). get_or l (lane_word m) 0) same) (λ m i a b. refl) record {
          sound = grind (arith, prefix_self, true≢false);
          word = ap (λ (l : List ℕ). get_or l (lane_word v.number) 0) same ∙ ok.word;
          keys = ok.keys;
          empty = ok.empty;
          laid = ok.laid;
          away = ok.away;
        } in (kept.0, grind (arith, look, to_lane), refl)),
        (
          refl,
          λ u e. let one : v ≡ u = same_some v u me.0.lane is e in
              (t.log, t.closed, subst (λ (z : LaneView B A). IsPrefix z.front t.log) one sd.seen.begins, (r.each_seat id me.0 at).heard, r.word, r.few, ap (λ (z : LaneView B A). with_lane (seeing t.log t.closed z) me.0) one),
        ),
      )

  pub looks : (slots id : ℕ) (me : SeatState B K A) (v : LaneView B A) → me.0.lane ≡ Some v → v.begun ≡ true → Allows (Ruled key) slots id me 0 (λ n. n) (Looks (step slots 0 0 0 none) me)
  looks slots id me v is begun s r deep at fits = let x = looks_as slots id me v is begun s r deep at fits in (x.0, x.1, x.2, x.3.0, x.4)
