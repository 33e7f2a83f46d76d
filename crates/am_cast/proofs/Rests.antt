-- What a cursor has taken once the rest of a place is shown at once.
use Rattle.std.proofs.Common.{◌≡◌, ℕ, ◌+◌, ◌-◌, ◌<◌, List, [], ◌∷◌, ◌++◌, length, take, drop, sym, ap, ◌∙◌, subst, arith, add-one, append_assoc, Some, slice_get}
use Rattle.std.proofs.lemmas.List.{append_cancel_right, length-drop, take-append-drop}
use Rattle.am_cast.specs.Cursors.{CursorView, items_at, shown_items}
use Rattle.am_cast.specs.Keys.{all_items}
use Rattle.am_cast.specs.declared.lends.Moved.TheVariants.{One}
use Rattle.am_cast.specs.Lent.{IsItem, IsRest, MovesSlice}
use Rattle.am_cast.proofs.Cursors.{get_there, take_get, take_all}

module _ {T P A : Type 0} where
  rest_of : (c m : CursorView T P A) (last : ℕ) → IsItem c m → last + 1 ≡ m.shown → last < length (items_at m.lane.front m.lane.passed)
      → IsRest c (record m { shown = length (items_at m.lane.front m.lane.passed) }) (drop last (items_at m.lane.front m.lane.passed))
  rest_of c m last one shown low =
      let items : List T = items_at m.lane.front m.lane.passed in
      let before : List T = all_items (drop m.lane.start (take m.lane.passed m.lane.front)) in
      let there = get_there items last low in
      let x : T = there.0 in
      let as_before : m.shown - 1 ≡ last = omega arith in
      let in_hand : slice_get items (m.shown - 1) ≡ Some x = ap (λ (n : ℕ). slice_get items n) as_before ∙ there.1 in
      let upto : take m.shown items ≡ take last items ++ x ∷ [] = ap (λ (n : ℕ). take n items) (sym shown ∙ add-one last) ∙ take_get items last x there.1 in
      let had : before ++ take last items ≡ shown_items c =
      append_cancel_right (before ++ take last items) (shown_items c) (x ∷ []) (append_assoc before (take last items) (x ∷ []) ∙ (ap (λ (l : List T). before ++ l) (sym upto) ∙ one.taken x in_hand)) in
      grind (arith, length-drop, take_all, take-append-drop, append_assoc)

  -- an item was shown, and then the rest of its place
  pub shows_rest : (c m d : CursorView T P A) (last : ℕ) → IsItem c m → last + 1 ≡ m.shown → last < length (items_at m.lane.front m.lane.passed)
      → d ≡ record m { shown = length (items_at m.lane.front m.lane.passed) } → MovesSlice c d One last
  shows_rest c m d last one shown low all =
      subst (λ (d : CursorView T P A). MovesSlice c d One last) (sym all) (omega (arith, low), rest_of c m last one shown low)
