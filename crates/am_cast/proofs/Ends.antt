-- The end of a log: where all lanes are idle each slot is empty.
use Rattle.std.proofs.Common.{◌≡◌, ℕ, zero, suc, Bool, false, set, get_or, refl, ◌+◌, ◌*◌, ◌/◌, ◌%◌, ◌<◌, ◌≤◌, List, [], ◌∷◌, length, sym, ap, ◌∙◌, subst, arith, Option, Some, None}
use Rattle.std.proofs.Math.Nat.{mod-lt}
use Rattle.std.proofs.lemmas.Nat.{mod-mul-add, div-add-mod'}
use mathlib.Core.Logic.{dite}
use mathlib.Core.Option.{some, some-injective}
use native.Mathlib.Decide.{dec_lt}
use lib.ListN.{get_elem?}
use Rattle.atomic_table.specs.Table.{State, Final, Seen}
use Rattle.am_cast.specs.declared.limits.TheConstants.{LANES}
use Rattle.am_cast.specs.declared.views.Account.{Account}
use Rattle.am_cast.specs.declared.views.View.{View}
use Rattle.am_cast.specs.declared.views.WriterView.{WriterView}
use Rattle.am_cast.specs.Rule.{idle, slot, Ruled}
use Rattle.am_cast.specs.Seats.{account_of}
use Rattle.am_cast.specs.Writers.{Calm}
use Rattle.am_cast.proofs.Accounts.{is_account_of}
use Rattle.am_cast.proofs.Slots.{at_length}

-- a slot that was emptied is empty
pub set_down : (xs : List Bool) (n : ℕ) → get_or (set xs n false) n false ≡ false
set_down [] n = refl
set_down (x ∷ xs) zero = refl
set_down (x ∷ xs) (suc n) = set_down xs n

pub suc_times : (n places : ℕ) → suc n * places ≡ n * places + places
suc_times n places = grind (arith)

-- a place of a window that has the remainder
place_with : (stop places r : ℕ) → 0 < places → r < places → (i : ℕ) × (stop ≤ i) × (i < stop + places) × (i % places ≡ r)
place_with stop places r some_places small = let a : ℕ = stop % places in let n : ℕ = stop / places in
    let below : a < places = mod-lt stop some_places in let parts : n * places + a ≡ stop = div-add-mod' stop places in
    dite (dec_lt r a)
    (λ less. let more : suc n * places ≡ n * places + places = suc_times n places in (suc n * places + r, omega arith, omega arith, mod-mul-add (suc n) places r small))
    (λ no_less. (n * places + r, omega arith, omega arith, mod-mul-add n places r small))

module _ {B K A : Type 0} (key : B → ℕ → K) where
  empty_slot : (s : State (Option K) (View B K A)) (ruled : Ruled key s) (q : WriterView B K A) (id : ℕ) (w : View B K A) → get_elem? s.views id ≡ some w → w.writer ≡ Some q → Calm q → ((l : ℕ) → l < LANES → (account_of q l).stand ≡ idle)
      → (k : ℕ) → k < length s.homes → get_elem? s.homes k ≡ some (some None)
  empty_slot s ruled q id w at is calm idles k inside =
      let places : ℕ = ruled.tail.places in let l : ℕ = k % LANES in let r : ℕ = k / LANES in let deep = ruled.deep in
      let parts : LANES * r + l ≡ k = omega arith in let below : r < places = omega arith in let small : l < LANES = omega arith in
      let has = subst (λ (o : Option (WriterView B K A)). Rattle.am_cast.specs.Rule.HasWriter ruled.tail ruled.seat ruled.account ruled.lane ruled.lane_seat id o) is (ruled.each_seat id w at).writer in
      let same : ruled.account l ≡ account_of q l = is_account_of q l (ruled.account l) (has.2 l small) in
      let c = subst (λ (b : Account K A). Rattle.am_cast.specs.Writers.IsCalm (length q.tail.log) q.tail.places b) (sym same) (calm.1 l small) in let stand = ap (λ (b : Account K A). b.stand) same ∙ idles l small in
      let clear = c.rest_is (λ e. omega arith) in let out = c.out in
      let p = place_with (ruled.account l).stop places r ruled.some_places below in
      grind arith

  pub no_keys_left : (q : WriterView B K A) (id : ℕ) (w : View B K A) (words : List ℕ) (xs : List (Option K)) → w.writer ≡ Some q → Calm q → ((l : ℕ) → l < LANES → (account_of q l).stand ≡ idle) → Final (Seen (Ruled key) id w) words xs
      → (k : ℕ) (y : Option K) → get_elem? xs k ≡ some y → y ≡ None
  no_keys_left q id w words xs is calm idles final k y at = let long = final.3 in let inside = at_length xs k y at in
      some-injective y None (sym at ∙ final.4 k None (empty_slot final.0 final.1.0 q id w final.1.1 is calm idles k (omega arith)))
