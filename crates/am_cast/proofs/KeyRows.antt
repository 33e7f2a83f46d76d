-- Rows: what stands at a place after a row has changed, has gone or has come.
use Rattle.std.proofs.Common.{◌≡◌, ◌≢◌, ℕ, zero, suc, ◌%◌, ◌<◌, ◌≤◌, List, [], ◌∷◌, ◌++◌, length, set, get_or, take, drop, refl, sym, ap, ◌∙◌, subst, arith, Option, Some, None, Bool, true, false, cond, nat_eq, eq-eqb, length-append, eqb-true, length-set, get_or-set_same, get_or-set_other, ◌-◌}
use mathlib.Core.Logic.{dite}
use Rattle.std.proofs.Math.Nat.{mod-lt}
use native.Mathlib.Decide.{ℕ_discrete, dec_lt}
use Rattle.am_segment.specs.Segments.{KeyView, AreAllKeys, MayJoin}
use Rattle.am_cast.specs.declared.limits.TheConstants.{LANES}
use Rattle.am_cast.specs.inside.KeyRows.{RowView, BucketView, find_row, HasNoRow, AreApart, HaveRemainder, IsRowOf, MayTake, row_with, no_bucket, row_at, AreSorted}
use Rattle.std.proofs.lemmas.Grind.{common_steps}

ne-eqb : (a b : ℕ) → a ≢ b → nat_eq a b ≡ false
ne-eqb a b ne = grind (arith)

some_is : {Y : Type 0} → (x y : Y) → Some x ≡ Some y → x ≡ y
some_is x y e = cc

module _ {X : Type 0} where
  pub find_head : (place : ℕ) (r : RowView X) (rs : List (RowView X)) → r.place ≡ place → find_row place (r ∷ rs) ≡ Some r.keys
  find_head place r rs e = ap (λ (b : Bool). cond b (Some r.keys) (find_row place rs)) (eq-eqb r.place place e)

  pub find_tail : (place : ℕ) (r : RowView X) (rs : List (RowView X)) → r.place ≢ place → find_row place (r ∷ rs) ≡ find_row place rs
  find_tail place r rs ne = ap (λ (b : Bool). cond b (Some r.keys) (find_row place rs)) (ne-eqb r.place place ne)

  no_row : (place : ℕ) (rows : List (RowView X)) → HasNoRow place rows → find_row place rows ≡ None
  no_row place [] h = refl
  no_row place (r ∷ rs) h = find_tail place r rs h.0 ∙ no_row place rs h.1

  pub no_row_of : (place : ℕ) (rows : List (RowView X)) → find_row place rows ≡ None → HasNoRow place rows
  no_row_of place [] h = tt
  no_row_of place (r ∷ rs) h = dite (ℕ_discrete r.place place)
      (λ e. absurd (none_is (sym (find_head place r rs e) ∙ h)))
      (λ ne. (ne, no_row_of place rs (sym (find_tail place r rs ne) ∙ h)))
    where
      none_is : {Y : Type 0} {y : Y} → Some y ≡ None → ⊥
      none_is e = cc

  pub set_here : (place : ℕ) (rows : List (RowView X)) (k : ℕ) (r new : RowView X) → k < length rows → AreApart rows → r ≡ get_or rows k r → r.place ≡ place → new.place ≡ place → find_row place (set rows k new) ≡ Some new.keys
  set_here place [] k r new h a is e f = absurd (omega arith)
  set_here place (x ∷ xs) zero r new h a is e f = find_head place new xs f
  set_here place (x ∷ xs) (suc k) r new h a is e f = find_tail place x (set xs k new) (λ z. apart xs k (omega arith) is a.0 (e ∙ sym z)) ∙ set_here place xs k r new (omega arith) a.1 is e f
    where
      apart : (xs : List (RowView X)) (k : ℕ) → k < length xs → r ≡ get_or xs k r → HasNoRow x.place xs → r.place ≡ x.place → ⊥
      apart [] k h is none_of z = omega arith
      apart (y ∷ ys) zero h is none_of z = none_of.0 (ap (λ (r : RowView X). r.place) (sym is) ∙ z)
      apart (y ∷ ys) (suc k) h is none_of z = apart ys k (omega arith) is none_of.1 z

  pub set_else : (place p : ℕ) (rows : List (RowView X)) (k : ℕ) (r new : RowView X) → k < length rows → r ≡ get_or rows k r → r.place ≡ place → new.place ≡ place → p ≢ place → find_row p (set rows k new) ≡ find_row p rows
  set_else place p [] k r new h is e f ne = refl
  set_else place p (x ∷ xs) zero r new h is e f ne = grind (arith, find_tail)
  set_else place p (x ∷ xs) (suc k) r new h is e f ne = grind (arith, (set_else place p xs k r new (omega arith) is e f ne))

  set_no_row : (p : ℕ) (rows : List (RowView X)) (k : ℕ) (r new : RowView X) → r ≡ get_or rows k r → new.place ≡ r.place → HasNoRow p rows → HasNoRow p (set rows k new)
  set_no_row p [] k r new is e none_of = tt
  set_no_row p (x ∷ xs) zero r new is e none_of = ((λ z. none_of.0 (ap (λ (r : RowView X). r.place) (sym is) ∙ sym e ∙ z)), none_of.1)
  set_no_row p (x ∷ xs) (suc k) r new is e none_of = (none_of.0, set_no_row p xs k r new is e none_of.1)

  pub set_apart : (rows : List (RowView X)) (k : ℕ) (r new : RowView X) → r ≡ get_or rows k r → new.place ≡ r.place → AreApart rows → AreApart (set rows k new)
  set_apart [] k r new is e a = tt
  set_apart (x ∷ xs) zero r new is e a = (subst (λ (p : ℕ). HasNoRow p xs) (ap (λ (r : RowView X). r.place) (sym is) ∙ sym e) a.0, a.1)
  set_apart (x ∷ xs) (suc k) r new is e a = (set_no_row x.place xs k r new is e a.0, set_apart xs k r new is e a.1)

  pub set_remainder : (places n : ℕ) (rows : List (RowView X)) (k : ℕ) (r new : RowView X) → r ≡ get_or rows k r → new.place ≡ r.place → HaveRemainder places n rows → HaveRemainder places n (set rows k new)
  set_remainder places n [] k r new is e a = tt
  set_remainder places n (x ∷ xs) zero r new is e a = (ap (λ (p : ℕ). p % places) (e ∙ ap (λ (r : RowView X). r.place) is) ∙ a.0, a.1)
  set_remainder places n (x ∷ xs) (suc k) r new is e a = (a.0, set_remainder places n xs k r new is e a.1)

  pub removed : List (RowView X) → ℕ → List (RowView X)
  removed rows k = take k rows ++ drop (suc k) rows

  remove_no_row : (p : ℕ) (rows : List (RowView X)) (k : ℕ) → HasNoRow p rows → HasNoRow p (take k rows ++ drop (suc k) rows)
  remove_no_row p [] zero none_of = tt
  remove_no_row p [] (suc k) none_of = tt
  remove_no_row p (x ∷ xs) zero none_of = none_of.1
  remove_no_row p (x ∷ xs) (suc k) none_of = (none_of.0, remove_no_row p xs k none_of.1)

  pub remove_apart : (rows : List (RowView X)) (k : ℕ) → AreApart rows → AreApart (take k rows ++ drop (suc k) rows)
  remove_apart [] zero a = tt
  remove_apart [] (suc k) a = tt
  remove_apart (x ∷ xs) zero a = a.1
  remove_apart (x ∷ xs) (suc k) a = (remove_no_row x.place xs k a.0, remove_apart xs k a.1)

  pub remove_remainder : (places n : ℕ) (rows : List (RowView X)) (k : ℕ) → HaveRemainder places n rows → HaveRemainder places n (take k rows ++ drop (suc k) rows)
  remove_remainder places n [] zero a = tt
  remove_remainder places n [] (suc k) a = tt
  remove_remainder places n (x ∷ xs) zero a = a.1
  remove_remainder places n (x ∷ xs) (suc k) a = (a.0, remove_remainder places n xs k a.1)

  pub remove_here : (place : ℕ) (rows : List (RowView X)) (k : ℕ) (r : RowView X) → k < length rows → AreApart rows → r ≡ get_or rows k r → r.place ≡ place → find_row place (take k rows ++ drop (suc k) rows) ≡ None
  remove_here place [] k r h a is e = absurd (omega arith)
  remove_here place (x ∷ xs) zero r h a is e = no_row place xs (subst (λ (p : ℕ). HasNoRow p xs) (ap (λ (r : RowView X). r.place) (sym is) ∙ e) a.0)
  remove_here place (x ∷ xs) (suc k) r h a is e = find_tail place x (take k xs ++ drop (suc k) xs) (λ z. apart xs k (omega arith) is a.0 (e ∙ sym z)) ∙ remove_here place xs k r (omega arith) a.1 is e
    where
      apart : (xs : List (RowView X)) (k : ℕ) → k < length xs → r ≡ get_or xs k r → HasNoRow x.place xs → r.place ≡ x.place → ⊥
      apart [] k h is none_of z = omega arith
      apart (y ∷ ys) zero h is none_of z = none_of.0 (ap (λ (r : RowView X). r.place) (sym is) ∙ z)
      apart (y ∷ ys) (suc k) h is none_of z = apart ys k (omega arith) is none_of.1 z

  pub remove_else : (place p : ℕ) (rows : List (RowView X)) (k : ℕ) (r : RowView X) → k < length rows → r ≡ get_or rows k r → r.place ≡ place → p ≢ place → find_row p (take k rows ++ drop (suc k) rows) ≡ find_row p rows
  remove_else place p [] k r h is e ne = absurd (omega arith)
  remove_else place p (x ∷ xs) zero r h is e ne = sym (find_tail p x xs (λ z. ne (sym z ∙ ap (λ (r : RowView X). r.place) (sym is) ∙ e)))
  remove_else place p (x ∷ xs) (suc k) r h is e ne = grind (arith, (remove_else place p xs k r (omega arith) is e ne))

  pub add_here : (rows : List (RowView X)) (r : RowView X) → find_row r.place rows ≡ None → find_row r.place (rows ++ r ∷ []) ≡ Some r.keys
  add_here [] r none_of = find_head r.place r [] refl
  add_here (x ∷ xs) r none_of = let n = no_row_of r.place (x ∷ xs) none_of in find_tail r.place x (xs ++ r ∷ []) n.0 ∙ add_here xs r (no_row r.place xs n.1)

  pub add_else : (p : ℕ) (rows : List (RowView X)) (r : RowView X) → p ≢ r.place → find_row p (rows ++ r ∷ []) ≡ find_row p rows
  add_else p [] r ne = find_tail p r [] (λ z. ne (sym z))
  add_else p (x ∷ xs) r ne = ap (λ (o : Option (List (KeyView X))). cond (nat_eq x.place p) (Some x.keys) o) (add_else p xs r ne)

  add_no_row : (p : ℕ) (rows : List (RowView X)) (r : RowView X) → r.place ≢ p → HasNoRow p rows → HasNoRow p (rows ++ r ∷ [])
  add_no_row p [] r ne none_of = (ne, tt)
  add_no_row p (x ∷ xs) r ne none_of = (none_of.0, add_no_row p xs r ne none_of.1)

  pub add_apart : (rows : List (RowView X)) (r : RowView X) → HasNoRow r.place rows → AreApart rows → AreApart (rows ++ r ∷ [])
  add_apart [] r none_of a = (tt, tt)
  add_apart (x ∷ xs) r none_of a = (add_no_row x.place xs r (λ z. none_of.0 (sym z)) a.0, add_apart xs r none_of.1 a.1)

  pub add_remainder : (places n : ℕ) (rows : List (RowView X)) (r : RowView X) → r.place % places ≡ n → HaveRemainder places n rows → HaveRemainder places n (rows ++ r ∷ [])
  add_remainder places n [] r e a = (e, tt)
  add_remainder places n (x ∷ xs) r e a = (a.0, add_remainder places n xs r e a.1)

  -- a bucket whose places have none_of row is empty
  pub no_rows : (rows : List (RowView X)) → ((p : ℕ) → find_row p rows ≡ None) → rows ≡ []
  no_rows [] h = refl
  no_rows (r ∷ rs) h = absurd (none_is (sym (find_head r.place r rs refl) ∙ h r.place))
    where
      none_is : {Y : Type 0} {y : Y} → Some y ≡ None → ⊥
      none_is e = cc

  pub find_here : (place : ℕ) (rows : List (RowView X)) (k : ℕ) (r : RowView X) → k < length rows → AreApart rows → r ≡ get_or rows k r → r.place ≡ place → find_row place rows ≡ Some r.keys
  find_here place [] k r h a is e = absurd (omega arith)
  find_here place (x ∷ xs) zero r h a is e = grind (arith, find_head)
  find_here place (x ∷ xs) (suc k) r h a is e = find_tail place x xs (λ z. apart xs k (omega arith) is a.0 (e ∙ sym z)) ∙ find_here place xs k r (omega arith) a.1 is e
    where
      apart : (xs : List (RowView X)) (k : ℕ) → k < length xs → r ≡ get_or xs k r → HasNoRow x.place xs → r.place ≡ x.place → ⊥
      apart [] k h is none_of z = omega arith
      apart (y ∷ ys) zero h is none_of z = none_of.0 (ap (λ (r : RowView X). r.place) (sym is) ∙ z)
      apart (y ∷ ys) (suc k) h is none_of z = apart ys k (omega arith) is none_of.1 z

  any_default : (rows : List (RowView X)) (k : ℕ) (d f : RowView X) → k < length rows → get_or rows k d ≡ get_or rows k f
  any_default [] k d f h = absurd (omega arith)
  any_default (x ∷ xs) zero d f h = refl
  any_default (x ∷ xs) (suc k) d f h = any_default xs k d f (omega arith)

  pub row_is : (place : ℕ) (rows : List (RowView X)) (k : ℕ) (row : RowView X) → IsRowOf place rows k → row ≡ get_or rows k row → row.place ≡ place
  row_is place rows k row h is = let r = h.1.0 in ap (λ (r : RowView X). r.place) (is ∙ any_default rows k row r h.0 ∙ sym h.1.1) ∙ h.1.2

  pub taking : (place : ℕ) (rows : List (RowView X)) (k : ℕ) (row : RowView X) (key : KeyView X) → AreApart rows → IsRowOf place rows k → row ≡ get_or rows k row
      → ((keys : List (KeyView X)) × (find_row place rows ≡ Some keys) × MayTake keys key) → MayTake row.keys key
  taking place rows k row key a h is t = grind (arith, common_steps, some_is, find_here, row_is)

  pub keys_are : (place : ℕ) (rows : List (RowView X)) (k : ℕ) (row : RowView X) (keys : List (KeyView X)) → AreApart rows → IsRowOf place rows k → row ≡ get_or rows k row
      → find_row place rows ≡ Some keys → keys ≡ row.keys
  keys_are place rows k row keys a h is e = some_is keys row.keys (sym e ∙ find_here place rows k row h.0 a is (row_is place rows k row h is))

  -- the row that stands there is the one that is found
  pub row_found : (place : ℕ) (rows inside : List (RowView X)) (k : ℕ) (row : RowView X) (keys : List (KeyView X)) → inside ≡ rows → AreApart rows → IsRowOf place rows k → row ≡ get_or inside k row → keys ≡ row.keys
      → Some keys ≡ find_row place rows
  row_found place rows inside k row keys same a h is e = grind (arith, common_steps, find_here, row_is)

  pub not_last : (keys : List (KeyView X)) (key : KeyView X) → nat_eq (length (keys ++ key ∷ [])) LANES ≡ false → row_with keys key ≡ Some (keys ++ key ∷ [])
  not_last keys key e = grind (arith, ne-eqb, length-append, eq-eqb)

  pub is_last : (keys : List (KeyView X)) (key : KeyView X) → nat_eq (length (keys ++ key ∷ [])) LANES ≡ true → length keys ≡ LANES - 1
  is_last keys key e = let n = length-append keys (key ∷ []) in let m = eqb-true (length (keys ++ key ∷ [])) LANES e in omega arith

  pub last : (keys : List (KeyView X)) (key : KeyView X) → nat_eq (length (keys ++ key ∷ [])) LANES ≡ true → row_with keys key ≡ None
  last keys key e = ap (λ (b : Bool). cond b None (Some (keys ++ key ∷ []))) (eq-eqb (length keys) (LANES - 1) (is_last keys key e))

  -- what a row's change leaves, where `rows` is what the bucket had
  pub record Brought (place : ℕ) (rows after : List (RowView X)) (key : KeyView X) : Type 0 where
    pub here : (keys : List (KeyView X)) → find_row place rows ≡ Some keys → find_row place after ≡ row_with keys key
    pub others : (p : ℕ) → p ≢ place → find_row p after ≡ find_row p rows
    pub apart : AreApart after
    pub remainder : (places n : ℕ) → HaveRemainder places n rows → HaveRemainder places n after

  -- a key more, which isn't the last
  pub brought_one : (place : ℕ) (rows : List (RowView X)) (k : ℕ) (row new : RowView X) (key : KeyView X) → AreApart rows → IsRowOf place rows k → row ≡ get_or rows k row
      → new ≡ record row { keys = row.keys ++ key ∷ [] } → nat_eq (length new.keys) LANES ≡ false → Brought place rows (set rows k new) key
  brought_one place rows k row new key a h is e more =
      let at = row_is place rows k row h is in grind (arith, keys_are, set_here, not_last, set_else, set_apart, set_remainder)

  get_set : (rows : List (RowView X)) (k : ℕ) (new d : RowView X) → k < length rows → get_or (set rows k new) k d ≡ new
  get_set [] k new d h = absurd (omega arith)
  get_set (x ∷ xs) zero new d h = refl
  get_set (x ∷ xs) (suc k) new d h = get_set xs k new d (omega arith)

  removed_set : (rows : List (RowView X)) (k : ℕ) (new : RowView X) → take k (set rows k new) ++ drop (suc k) (set rows k new) ≡ take k rows ++ drop (suc k) rows
  removed_set [] k new = refl
  removed_set (x ∷ xs) zero new = refl
  removed_set (x ∷ xs) (suc k) new = ap (λ (l : List (RowView X)). x ∷ l) (removed_set xs k new)

  -- the last key
  pub brought_last : (place : ℕ) (rows after : List (RowView X)) (k : ℕ) (row new : RowView X) (key : KeyView X) → AreApart rows → IsRowOf place rows k → row ≡ get_or rows k row
      → new ≡ record row { keys = row.keys ++ key ∷ [] } → nat_eq (length new.keys) LANES ≡ true → after ≡ take k (set rows k new) ++ drop (suc k) (set rows k new) → Brought place rows after key
  brought_last place rows after k row new key a h is e full gone =
      let at = row_is place rows k row h is in let keys_is : new.keys ≡ row.keys ++ key ∷ [] = ap (λ (r : RowView X). r.keys) e in
      let less : after ≡ take k rows ++ drop (suc k) rows = gone ∙ removed_set rows k new in record {
        here = λ keys f. let was = keys_are place rows k row keys a h is f in ap (λ (l : List (RowView X)). find_row place l) less ∙ remove_here place rows k row h.0 a is at ∙ sym (last row.keys key (ap (λ (l : List (KeyView X)). nat_eq (length l) LANES) (sym keys_is) ∙ full)) ∙ ap (λ (l : List (KeyView X)). row_with l key) (sym was);
        others = λ p ne. ap (λ (l : List (RowView X)). find_row p l) less ∙ remove_else place p rows k row h.0 is at ne;
        apart = subst (λ (l : List (RowView X)). AreApart l) (sym less) (remove_apart rows k a);
        remainder = λ places n r. subst (λ (l : List (RowView X)). HaveRemainder places n l) (sym less) (remove_remainder places n rows k r);
      }

  -- the last key makes all of them
  pub all_home : (place : ℕ) (rows : List (RowView X)) (k : ℕ) (row new out : RowView X) (key : KeyView X) → AreApart rows → IsRowOf place rows k → row ≡ get_or rows k row
      → ((keys : List (KeyView X)) × (find_row place rows ≡ Some keys) × MayTake keys key)
      → new ≡ record row { keys = row.keys ++ key ∷ [] } → nat_eq (length new.keys) LANES ≡ true → out ≡ get_or (set rows k new) k out → AreAllKeys out.keys
  all_home place rows k row new out key a h is t e full o =
      let keys_is : new.keys ≡ row.keys ++ key ∷ [] = ap (λ (r : RowView X). r.keys) e in
      let out_is : out ≡ new = o ∙ get_set rows k new out h.0 in
      subst (λ (l : List (KeyView X)). AreAllKeys l) (sym (ap (λ (r : RowView X). r.keys) out_is ∙ keys_is)) ((taking place rows k row key a h is t).2 (is_last row.keys key (ap (λ (l : List (KeyView X)). nat_eq (length l) LANES) (sym keys_is) ∙ full)))

  -- the same, of rows known by another name
  pub may_add : (place : ℕ) (rows inside : List (RowView X)) (k : ℕ) (row : RowView X) (key : KeyView X) → inside ≡ rows → AreApart rows → IsRowOf place rows k → row ≡ get_or inside k row
      → ((keys : List (KeyView X)) × (find_row place rows ≡ Some keys) × MayTake keys key) → MayJoin row.keys key
  may_add place rows inside k row key same a h is t = (taking place rows k row key a h (is ∙ ap (λ (l : List (RowView X)). get_or l k row) same) t).0

  pub may_end : (place : ℕ) (rows inside : List (RowView X)) (k : ℕ) (row new out : RowView X) (key : KeyView X) → inside ≡ rows → AreApart rows → IsRowOf place rows k → row ≡ get_or inside k row
      → ((keys : List (KeyView X)) × (find_row place rows ≡ Some keys) × MayTake keys key)
      → new ≡ record row { keys = row.keys ++ key ∷ [] } → nat_eq (length new.keys) LANES ≡ true → out ≡ get_or (set inside k new) k out → AreAllKeys out.keys
  may_end place rows inside k row new out key same a h is t e full o =
      all_home place rows k row new out key a h (is ∙ ap (λ (l : List (RowView X)). get_or l k row) same) t e full (o ∙ ap (λ (l : List (RowView X)). get_or (set l k new) k out) same)

  pub one_more : (place : ℕ) (rows inside : List (RowView X)) (k : ℕ) (row new : RowView X) (key : KeyView X) → inside ≡ rows → AreApart rows → IsRowOf place rows k → row ≡ get_or inside k row
      → new ≡ record row { keys = row.keys ++ key ∷ [] } → nat_eq (length new.keys) LANES ≡ false → Brought place rows (set inside k new) key
  one_more place rows inside k row new key same a h is e more = subst (λ (l : List (RowView X)). Brought place rows (set l k new) key) (sym same)
      (brought_one place rows k row new key a h (is ∙ ap (λ (l : List (RowView X)). get_or l k row) same) e more)

  pub last_more : (place : ℕ) (rows inside after : List (RowView X)) (k : ℕ) (row new : RowView X) (key : KeyView X) → inside ≡ rows → AreApart rows → IsRowOf place rows k → row ≡ get_or inside k row
      → new ≡ record row { keys = row.keys ++ key ∷ [] } → nat_eq (length new.keys) LANES ≡ true → after ≡ take k (set inside k new) ++ drop (suc k) (set inside k new) → Brought place rows after key
  last_more place rows inside after k row new key same a h is e full out =
      brought_last place rows after k row new key a h (is ∙ ap (λ (l : List (RowView X)). get_or l k row) same) e full (out ∙ ap (λ (l : List (RowView X)). take k (set l k new) ++ drop (suc k) (set l k new)) same)

  out_of : (bs : List (BucketView X)) (n : ℕ) → length bs ≤ n → get_or bs n no_bucket ≡ no_bucket
  out_of [] n h = refl
  out_of (b ∷ bs) zero h = absurd (omega arith)
  out_of (b ∷ bs) (suc n) h = out_of bs n (omega arith)

  -- one bucket has changed
  pub sorted_set : (bs : List (BucketView X)) (n : ℕ) (new : BucketView X) → AreSorted bs → n < length bs → HaveRemainder (length bs) n new.rows → AreApart new.rows → AreSorted (set bs n new)
  sorted_set bs n new s h r a = grind (arith, length-set, get_or-set_same, get_or-set_other)

  pub insert_sorted : (bs : List (BucketView X)) (n : ℕ) (row : RowView X) (old new : BucketView X) → AreSorted bs → n ≡ row.place % length bs → n < length bs → old ≡ get_or bs n old → new.rows ≡ old.rows ++ row ∷ [] → row_at bs row.place ≡ None → AreSorted (set bs n new)
  insert_sorted bs n row old new s is h at e none_of = grind (arith, common_steps, no_row_of, sorted_set, add_remainder, add_apart)

  pub bucket_is : (bs : List (BucketView X)) (n : ℕ) (old : BucketView X) → n < length bs → old ≡ get_or bs n old → old ≡ get_or bs n no_bucket
  bucket_is [] n old h e = absurd (omega arith)
  bucket_is (b ∷ bs) zero old h e = e
  bucket_is (b ∷ bs) (suc n) old h e = bucket_is bs n old (omega arith) e

  -- a bucket's change shows at the places of its remainder alone
  pub row_in_set : (bs : List (BucketView X)) (n p : ℕ) (new : BucketView X) → n < length bs → p % length bs ≡ n → row_at (set bs n new) p ≡ find_row p new.rows
  row_in_set bs n p new h e = grind (arith, length-set, get_or-set_same)

  pub row_off_set : (bs : List (BucketView X)) (n p : ℕ) (new : BucketView X) → p % length bs ≢ n → row_at (set bs n new) p ≡ row_at bs p
  row_off_set bs n p new ne = grind (arith, length-set, get_or-set_other)

  pub insert_here : (bs : List (BucketView X)) (n : ℕ) (row : RowView X) (old new : BucketView X) → n ≡ row.place % length bs → n < length bs → old ≡ get_or bs n old → new.rows ≡ old.rows ++ row ∷ [] → row_at bs row.place ≡ None → row_at (set bs n new) row.place ≡ Some row.keys
  insert_here bs n row old new is h at e none_of = grind (arith, row_in_set, add_here, bucket_is)

  pub insert_others : (bs : List (BucketView X)) (n p : ℕ) (row : RowView X) (old new : BucketView X) → n ≡ row.place % length bs → n < length bs → old ≡ get_or bs n old → new.rows ≡ old.rows ++ row ∷ [] → p ≢ row.place → row_at (set bs n new) p ≡ row_at bs p
  insert_others bs n p row old new is h at e ne = grind (arith, row_in_set, add_else, bucket_is, row_off_set)

  -- where no place has a row, each bucket is empty
  pub all_empty : (bs : List (BucketView X)) → AreSorted bs → ((p : ℕ) → row_at bs p ≡ None) → (n : ℕ) → (get_or bs n no_bucket).rows ≡ []
  all_empty bs s none_of n = dite (dec_lt n (length bs))
      (λ h. no_rows (get_or bs n no_bucket).rows (λ p. elsewhere p (get_or bs n no_bucket).rows (s.each n h).0 (λ e. ap (λ (k : ℕ). find_row p (get_or bs k no_bucket).rows) (sym e) ∙ none_of p)))
      (λ h. ap (λ (b : BucketView X). b.rows) (out_of bs n (omega arith)))
    where
      elsewhere : (p : ℕ) (rows : List (RowView X)) → HaveRemainder (length bs) n rows → (p % length bs ≡ n → find_row p rows ≡ None) → find_row p rows ≡ None
      elsewhere p [] r h = refl
      elsewhere p (x ∷ xs) r h = dite (ℕ_discrete x.place p)
          (λ e. h (ap (λ (p : ℕ). p % length bs) (sym e) ∙ r.0))
          (λ ne. find_tail p x xs ne ∙ elsewhere p xs r.1 (λ e. sym (find_tail p x xs ne) ∙ h e))

  pub changed_sorted : (bs : List (BucketView X)) (n : ℕ) (old new : BucketView X) → AreSorted bs → n < length bs → old ≡ get_or bs n old
      → ((places m : ℕ) → HaveRemainder places m old.rows → HaveRemainder places m new.rows) → AreApart new.rows → AreSorted (set bs n new)
  changed_sorted bs n old new s h at r a = sorted_set bs n new s h
      (r (length bs) n (subst (λ (b : BucketView X). HaveRemainder (length bs) n b.rows) (sym (bucket_is bs n old h at)) (s.each n h).0)) a

  -- an index that was reckoned of the buckets under another name
  pub index_is : (bs was : List (BucketView X)) (index place : ℕ) → bs ≡ was → index ≡ place % length was → index ≡ place % length bs
  index_is bs was index place same is = is ∙ ap (λ (bs : List (BucketView X)). place % length bs) (sym same)

  pub within : (bs was : List (BucketView X)) (index place : ℕ) → AreSorted bs → bs ≡ was → index ≡ place % length was → index < length bs
  within bs was index place s same is = subst (λ (k : ℕ). k < length bs) (sym (index_is bs was index place same is)) (mod-lt place s.some)
