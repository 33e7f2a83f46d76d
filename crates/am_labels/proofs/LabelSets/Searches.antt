-- A binary search by name among pairs in byte order of names.
use Rattle.std.proofs.Common.{◌≡◌, ◌≢◌, ℕ, zero, suc, ◌<◌, ◌≤◌, ◌&&◌, Bool, true, false, cond, Some, None, List, [], ◌∷◌, length, get_or, refl, sym, ap, ◌∙◌, true≢false, arith, T, Less, Equal, Greater, inl, inr}
use Rattle.std.specs.FinMap.{slice_cmp-IsAntisymmetric, nat_cmp-IsAntisymmetric}
use Rattle.std.specs.FinMap.Entries.{is_sorted, below_all, find}
use Rattle.std.specs.Cmp.{tied_itself}
use Rattle.std.specs.Cmp.{unsigned_Decides}
use Rattle.std.specs.Cmp.Lexicographic.{nat_list_cmp_total, pointwise_decides}
use Rattle.std.specs.declared.cmp.Ordering.{Ordering}
use Rattle.std.specs.Ordering.{is_lt, is_eq, ordering_reverse}
use Rattle.std.specs.List.{AllWithin}
use Rattle.std.proofs.lemmas.Bool.{cases_lt}
use Rattle.std.proofs.lemmas.List.{get_or_default}
use Rattle.am_labels.specs.Texts.{same_text, text_cmp}

pub both : (a b : Bool) → T (a && b) → T a × T b
both true b h = (tt, h)
both false b h = absurd h

pub less : (o : Ordering) → T (is_lt o) → o ≡ Less
less Less h = refl
less Equal h = absurd h
less Greater h = absurd h

flipped : (x y : List ℕ) → text_cmp x y ≡ Less → text_cmp y x ≡ Greater
flipped x y e = nat_list_cmp_total.antisymm y x ∙ ap ordering_reverse e

-- only equal texts tie
pub tied : (x y : List ℕ) → text_cmp x y ≡ Equal → x ≡ y
tied = slice_cmp-IsAntisymmetric nat_cmp-IsAntisymmetric

-- the names after one are greater
below_at : (name : List ℕ) (pairs : List (List ℕ × List ℕ)) (at : ℕ) (d : List ℕ × List ℕ) → T (below_all text_cmp name pairs) → at < length pairs → text_cmp name (get_or pairs at d).0 ≡ Less
below_at name [] at d h short = absurd (omega arith)
below_at name (pair ∷ pairs) zero d h short = less _ (both _ _ h).0
below_at name (pair ∷ pairs) (suc at) d h short = below_at name pairs at d (both _ _ h).1 (omega arith)

pub find_there : (pairs : List (List ℕ × List ℕ)) (name : List ℕ) (at : ℕ) (d : List ℕ × List ℕ) → T (is_sorted text_cmp pairs) → at < length pairs → (get_or pairs at d).0 ≡ name → find text_cmp name pairs ≡ Some (get_or pairs at d).1
find_there [] name at d h short here = absurd (omega arith)
find_there (pair ∷ pairs) name zero d h short here =
    ap (λ o. cond (is_eq o) (Some pair.1) (find text_cmp name pairs)) (ap (text_cmp name) here ∙ tied_itself nat_list_cmp_total name)
find_there (pair ∷ pairs) name (suc at) d h short here =
    let apart = flipped pair.0 name (ap (text_cmp pair.0) (sym here) ∙ below_at pair.0 pairs at d (both _ _ h).0 (omega arith)) in
    ap (λ o. cond (is_eq o) (Some pair.1) (find text_cmp name pairs)) apart ∙ find_there pairs name at d (both _ _ h).1 (omega arith) here

untied : (o : Ordering) → (o ≡ Equal → ⊥) → is_eq o ≡ false
untied Less h = refl
untied Equal h = absurd (h refl)
untied Greater h = refl

-- the first of some pairs has the name
pub find_first : (other name value : List ℕ) (pairs : List (List ℕ × List ℕ)) → same_text other name ≡ true → find text_cmp name ((other, value) ∷ pairs) ≡ Some value
find_first other name value pairs same =
    let is : other ≡ name = (pointwise_decides unsigned_Decides other name).0 same in
    ap (λ o. cond (is_eq o) (Some value) (find text_cmp name pairs)) (ap (text_cmp name) is ∙ tied_itself nat_list_cmp_total name)

-- it hasn't
pub find_later : (other name value : List ℕ) (pairs : List (List ℕ × List ℕ)) → same_text other name ≡ false
    → find text_cmp name ((other, value) ∷ pairs) ≡ find text_cmp name pairs
find_later other name value pairs differs =
    let apart : text_cmp name other ≡ Equal → ⊥ = λ tie. true≢false (sym ((pointwise_decides unsigned_Decides other name).1 (sym (tied name other tie))) ∙ differs) in
    ap (λ b. cond b (Some value) (find text_cmp name pairs)) (untied (text_cmp name other) apart)

pub find_nowhere : (pairs : List (List ℕ × List ℕ)) (name : List ℕ) → ((at : ℕ) (d : List ℕ × List ℕ) → at < length pairs → text_cmp (get_or pairs at d).0 name ≢ Equal) → find text_cmp name pairs ≡ None
find_nowhere [] name h = refl
find_nowhere (pair ∷ pairs) name h =
    let apart : text_cmp name pair.0 ≡ Equal → ⊥ = λ e. h 0 pair (omega arith) (nat_list_cmp_total.antisymm pair.0 name ∙ ap ordering_reverse e) in
    ap (λ b. cond b (Some pair.1) (find text_cmp name pairs)) (untied (text_cmp name pair.0) apart)
    ∙ find_nowhere pairs name (λ at d short. h (suc at) d (omega arith))

-- if no name ties before an index, nor from it on, the name is not there
pub find_between : (pairs : List (List ℕ × List ℕ)) (name : List ℕ) (index : ℕ)
    → AllWithin (λ (pair : List ℕ × List ℕ). text_cmp pair.0 name ≡ Less) pairs 0 index
    → AllWithin (λ (pair : List ℕ × List ℕ). text_cmp pair.0 name ≡ Greater) pairs index (length pairs)
    → find text_cmp name pairs ≡ None
find_between pairs name index front back = grind (arith, find_nowhere, cases_lt)

-- an earlier name is lower
rises : (pairs : List (List ℕ × List ℕ)) (i j : ℕ) (d : List ℕ × List ℕ) → T (is_sorted text_cmp pairs) → i < j → j < length pairs
    → text_cmp (get_or pairs i d).0 (get_or pairs j d).0 ≡ Less
rises [] i j d h less short = absurd (omega arith)
rises (pair ∷ pairs) i zero d h less short = absurd (omega arith)
rises (pair ∷ pairs) zero (suc j) d h less short = below_at pair.0 pairs j d (both _ _ h).0 (omega arith)
rises (pair ∷ pairs) (suc i) (suc j) d h less short = rises pairs i j d (both _ _ h).1 (omega arith) (omega arith)

-- the names up to a lower one are lower
pub lower_up_to : (pairs : List (List ℕ × List ℕ)) (name : List ℕ) (at : ℕ) (e : List ℕ × List ℕ) → T (is_sorted text_cmp pairs) → at < length pairs
    → text_cmp (get_or pairs at e).0 name ≡ Less → (k : ℕ) (d : List ℕ × List ℕ) → k ≤ at → text_cmp (get_or pairs k d).0 name ≡ Less
lower_up_to pairs name at e h short less k d before =
    let here : text_cmp (get_or pairs at d).0 name ≡ Less = ap (λ (pair : List ℕ × List ℕ). text_cmp pair.0 name) (get_or_default pairs at d e short) ∙ less in
    elim (cases_lt k at) [
      | inl below ↦ nat_list_cmp_total.trans (get_or pairs k d).0 (get_or pairs at d).0 name (rises pairs k at d h below short) here
      | inr past ↦
          let there : k ≡ at = omega arith in
          ap (λ i. text_cmp (get_or pairs i d).0 name) there ∙ here
    ]

-- the names from a greater one on are greater
pub greater_from : (pairs : List (List ℕ × List ℕ)) (name : List ℕ) (at : ℕ) (e : List ℕ × List ℕ) → T (is_sorted text_cmp pairs)
    → text_cmp (get_or pairs at e).0 name ≡ Greater → (k : ℕ) (d : List ℕ × List ℕ) → at ≤ k → k < length pairs → text_cmp (get_or pairs k d).0 name ≡ Greater
greater_from pairs name at e h more k d past short =
    let here : text_cmp (get_or pairs at d).0 name ≡ Greater = ap (λ (pair : List ℕ × List ℕ). text_cmp pair.0 name) (get_or_default pairs at d e (omega arith)) ∙ more in
    let above : text_cmp name (get_or pairs at d).0 ≡ Less = nat_list_cmp_total.antisymm name (get_or pairs at d).0 ∙ ap ordering_reverse here in
    elim (cases_lt at k) [
      | inl beyond ↦ flipped name (get_or pairs k d).0 (nat_list_cmp_total.trans name (get_or pairs at d).0 (get_or pairs k d).0 above (rises pairs at k d h beyond short))
      | inr up ↦
          let there : k ≡ at = omega arith in
          ap (λ i. text_cmp (get_or pairs i d).0 name) there ∙ here
    ]
