-- Slots of a lane, beginnings of the log, functions changed at one number, and own places.
use Rattle.std.proofs.Common.{Option, Bool, None, ◌/◌, ◌≡◌, ◌≢◌, ℕ, zero, suc, ◌+◌, ◌-◌, ◌*◌, ◌%◌, ◌<◌, ◌≤◌, List, [], ◌∷◌, ◌++◌, length, sym, refl, ap, ◌∙◌, ⊎_elim, ◌⊎◌, inl, inr, arith, length-append, append_assoc, mod-lt, div-add-mod', mul_comm}
use Rattle.std.proofs.Math.Nat.{add-mul-mod_self_left}
use mathlib.Core.Logic.{dite}
use mathlib.Core.Option.{some, some-ne-none, some-injective}
use mathlib.Core.List.{IsPrefix}
use native.Mathlib.Decide.{ℕ_discrete, dec_le}
use lib.ListN.{get_elem?}
use Rattle.atomic_table.proofs.Lists.{one_turn}
use Rattle.am_cast.specs.declared.limits.TheConstants.{LANES}
use Rattle.am_cast.specs.declared.views.Own.{Own}
use Rattle.am_cast.specs.Rule.{slot, bit, IsApart, Once, Owns}

abbrev pick : {P A : Type 0} → Dec P → A → A → A
pick (yes _) a b = a
pick (no _) a b = b

pub put : {A : Type 0} → (ℕ → A) → ℕ → A → ℕ → A
put f i c j = pick (ℕ_discrete j i) c (f j)

pub put_here : {A : Type 0} (f : ℕ → A) (i : ℕ) (c : A) → put f i c i ≡ c
unfolding put
put_here {A} f i c = grind arith

pub put_else : {A : Type 0} (f : ℕ → A) (i : ℕ) (c : A) (j : ℕ) → j ≢ i → put f i c j ≡ f j
unfolding put
put_else {A} f i c j other = grind arith

-- what was there is put there again
pub put_same : {A : Type 0} (f : ℕ → A) (i : ℕ) (c : A) (j : ℕ) → c ≡ f i → put f i c j ≡ f j
put_same f i c j e = dite (ℕ_discrete j i) (λ h. ap (put f i c) h ∙ put_here f i c ∙ e ∙ ap f (sym h)) (λ ne. put_else f i c j ne)

-- what was the seat `from`'s is the seat `to`'s
pub becomes : ℕ → ℕ → ℕ → ℕ
becomes to from n = pick (ℕ_discrete n from) to n

pub becomes_here : (to from n : ℕ) → n ≡ from → becomes to from n ≡ to
unfolding becomes
becomes_here to from n e = grind arith

pub becomes_else : (to from n : ℕ) → n ≢ from → becomes to from n ≡ n
unfolding becomes
becomes_else to from n ne = grind arith

-- two places in one turn of the ring have slots of their own
pub apart : (p l k i j : ℕ) → k ≤ i → i < k + p → k ≤ j → j < k + p → i ≢ j → slot p l i ≢ slot p l j
apart p l k i j a b c d ne e = grind (arith, dec_le, one_turn)

-- two lanes have slots of their own
pub other_lane : (p l m i j : ℕ) → l < LANES → m < LANES → l ≢ m → slot p l i ≢ slot p m j
other_lane p l m i j a b ne e = ne (omega (arith, a, b, e))

-- a place and the one a turn later share a slot
pub one_turn_on : (p l i : ℕ) → slot p l (i + p) ≡ slot p l i
one_turn_on p l i = let on : i + p ≡ i + p * 1 = omega arith in ap (λ (x : ℕ). LANES * x + l) (ap (λ (x : ℕ). x % p) on ∙ add-mul-mod_self_left i p 1)

-- a place in the turn from n on that shares the slot of i
pub same_slot : (p l n i : ℕ) → 0 < p → n ≤ i → (j : ℕ) × (n ≤ j) × (j < n + p) × (slot p l i ≡ slot p l j)
same_slot p l n i pos le =
    let r : ℕ = (i - n) % p in let k : ℕ = (i - n) / p in let parts = div-add-mod' (i - n) p in
    let is : i ≡ (n + r) + p * k = let m : ℕ = k * p in omega (arith, mul_comm k p) in
    (n + r, omega arith, omega arith, ap (λ (x : ℕ). LANES * x + l) (ap (λ (x : ℕ). x % p) is ∙ add-mul-mod_self_left (n + r) p k))

pub slot_inside : (p l i n : ℕ) → l < LANES → 0 < p → n ≡ LANES * p → slot p l i < n
slot_inside p l i n a b e = let h = mod-lt i b in omega (arith, a, e, h)

module _ {A : Type 0} where
  pub at_length : (l : List A) (i : ℕ) (a : A) → get_elem? l i ≡ some a → i < length l
  at_length [] i a e = absurd (some-ne-none a (sym e))
  at_length (x ∷ xs) zero a e = omega arith
  at_length (x ∷ xs) (suc i) a e = let h = at_length xs i a e in omega arith

  pub at_below : (l : List A) (i : ℕ) → i < length l → (a : A) × (get_elem? l i ≡ some a)
  at_below [] i h = absurd (omega arith)
  at_below (x ∷ xs) zero h = (x, refl)
  at_below (x ∷ xs) (suc i) h = at_below xs i (omega arith)

  pub at_end : (l : List A) (a b : A) (i : ℕ) → get_elem? (l ++ a ∷ []) i ≡ some b → (get_elem? l i ≡ some b) ⊎ ((i ≡ length l) × (a ≡ b))
  at_end [] a b zero e = inr (refl, some-injective a b e)
  at_end [] a b (suc i) e = absurd (some-ne-none b (sym e))
  at_end (x ∷ xs) a b zero e = inl e
  at_end (x ∷ xs) a b (suc i) e = ⊎_elim (λ t. inl t) (λ t. inr (ap suc t.0, t.1)) (at_end xs a b i e)

  pub prefix_nil : (l : List A) → IsPrefix [] l
  prefix_nil l = (l, refl)

  pub prefix_self : (xs : List A) → IsPrefix xs xs
  prefix_self [] = ([], refl)
  prefix_self (x ∷ xs) = (let r = prefix_self xs in r.0, ap (λ ys. x ∷ ys) (prefix_self xs).1)

  pub prefix_trans : (xs ys zs : List A) → IsPrefix xs ys → IsPrefix ys zs → IsPrefix xs zs
  prefix_trans xs ys zs p q = (p.0 ++ q.0, sym (append_assoc xs p.0 q.0) ∙ (ap (λ w. w ++ q.0) p.1 ∙ q.1))

  pub prefix_more : (xs ys : List A) (a : A) → IsPrefix xs ys → IsPrefix xs (ys ++ a ∷ [])
  prefix_more xs ys a p = prefix_trans xs ys (ys ++ a ∷ []) p (a ∷ [], refl)

  pub prefix_length : (xs ys : List A) → IsPrefix xs ys → length xs ≤ length ys
  prefix_length xs ys p = omega (arith, sym (ap length p.1) ∙ length-append xs p.0)

  pub prefix_at : (xs ys : List A) (i : ℕ) (a : A) → IsPrefix xs ys → get_elem? xs i ≡ some a → get_elem? ys i ≡ some a
  prefix_at [] ys i a p e = absurd (some-ne-none a (sym e))
  prefix_at (x ∷ xs) [] i a p e = absurd (cc (p.1))
  prefix_at (x ∷ xs) (y ∷ ys) zero a p e = let h : x ≡ y = cc (p.1) in ap some (sym h) ∙ e
  prefix_at (x ∷ xs) (y ∷ ys) (suc i) a p e = prefix_at xs ys i a (p.0, cc (p.1)) e

  -- what stands in the longer list, at a place of the shorter
  pub prefix_back : (xs ys : List A) (i : ℕ) (a : A) → IsPrefix xs ys → i < length xs → get_elem? ys i ≡ some a → get_elem? xs i ≡ some a
  prefix_back xs ys i a p h e = let x = at_below xs i h in x.1 ∙ sym (prefix_at xs ys i x.0 p x.1) ∙ e

pub bit_small : (b : Bool) → bit b < 2
bit_small b = grind arith

module _ {B : Type 0} where
  pub owns_nothing : (log : List B) (owner : ℕ → ℕ) (j : ℕ) → Owns log owner j []
  owns_nothing log owner j = record { each = λ k o e. absurd (some-ne-none o (sym e)); once = tt }

  at_append : (xs ys : List (Own B)) (k : ℕ) (o : Own B) → get_elem? (xs ++ ys) k ≡ some o → (get_elem? xs k ≡ some o) ⊎ ((m : ℕ) × (get_elem? ys m ≡ some o))
  at_append [] ys k o e = inr (k, e)
  at_append (x ∷ xs) ys zero o e = inl e
  at_append (x ∷ xs) ys (suc k) o e = at_append xs ys k o e

  is_apart : (p : ℕ) (ys : List (Own B)) → ((m : ℕ) (y : Own B) → get_elem? ys m ≡ some y → y.place ≢ p) → IsApart p ys
  is_apart p [] h = tt
  is_apart p (y ∷ ys) h = (h 0 y refl, is_apart p ys (λ m z e. h (suc m) z e))

  is_apart_append : (p : ℕ) (xs ys : List (Own B)) → IsApart p xs → IsApart p ys → IsApart p (xs ++ ys)
  is_apart_append p [] ys a b = b
  is_apart_append p (x ∷ xs) ys a b = (a.0, is_apart_append p xs ys a.1 b)

  once_append : (xs ys : List (Own B)) → Once xs → Once ys → ((k m : ℕ) (x y : Own B) → get_elem? xs k ≡ some x → get_elem? ys m ≡ some y → y.place ≢ x.place) → Once (xs ++ ys)
  once_append [] ys a b h = b
  once_append (x ∷ xs) ys a b h = (is_apart_append x.place xs ys a.0 (is_apart x.place ys (λ m y e. h 0 m x y refl e)), once_append xs ys a.1 b (λ k m u y e f. h (suc k) m u y e f))

  -- what stays, where the log may have grown and the owners of these places stay
  pub owns_still : (log log' : List B) (owner owner' : ℕ → ℕ) (j : ℕ) (own : List (Own B)) → IsPrefix log log' → ((p : ℕ) → p < length log → owner' p ≡ owner p) → Owns log owner j own → Owns log' owner' j own
  owns_still log log' owner owner' j own p same o = record {
    each = λ k x e. let t = o.each k x e in (prefix_at log log' x.place x.batch p t.0, same x.place (at_length log x.place x.batch t.0) ∙ t.1);
    once = o.once;
  }

  -- the places of the seat `from` go to the seat `to`: what another seat owns
  pub owns_else : (log : List B) (owner : ℕ → ℕ) (to from j : ℕ) (own : List (Own B)) → j ≢ from → Owns log owner j own → Owns log (λ p. becomes to from (owner p)) j own
  owns_else log owner to from j own ne o = record {
    each = λ k x e. let t = o.each k x e in (t.0, becomes_else to from (owner x.place) (λ h. ne (sym t.1 ∙ h)) ∙ t.1);
    once = o.once;
  }

  pub owns_there : (log : List B) (owner : ℕ → ℕ) (to from : ℕ) (own : List (Own B)) → Owns log owner from own → Owns log (λ p. becomes to from (owner p)) to own
  owns_there log owner to from own o = record {
    each = λ k x e. let t = o.each k x e in (t.0, becomes_here to from (owner x.place) t.1);
    once = o.once;
  }

  -- what two seats owned
  pub owns_both : (log : List B) (owner : ℕ → ℕ) (to from : ℕ) (xs ys : List (Own B)) → to ≢ from → Owns log owner to xs → Owns log owner from ys → Owns log (λ p. becomes to from (owner p)) to (xs ++ ys)
  owns_both log owner to from xs ys ne a b = record {
    each = λ k o e. ⊎_elim (λ h. (owns_else log owner to from to xs ne a).each k o h) (λ (h : (m : ℕ) × (get_elem? ys m ≡ some o)). (owns_there log owner to from ys b).each h.0 o h.1) (at_append xs ys k o e);
    once = once_append xs ys a.once b.once (λ k m x y e f same. ne (sym (a.each k x e).1 ∙ ap owner (sym same) ∙ (b.each m y f).1));
  }

  -- a new place beside those that were there
  pub owns_one_more : (log log' : List B) (owner owner' : ℕ → ℕ) (j : ℕ) (own : List (Own B)) (o : Own B) → IsPrefix log log' → ((p : ℕ) → p < length log → owner' p ≡ owner p) → length log ≤ o.place → get_elem? log' o.place ≡ some o.batch → owner' o.place ≡ j
      → Owns log owner j own → Owns log' owner' j (own ++ o ∷ [])
  owns_one_more log log' owner owner' j own o p same new there mine a = record {
    each = λ k x e. ⊎_elim (λ h. (owns_still log log' owner owner' j own p same a).each k x h) (grind arith) (at_end own o x k e);
    once = once_append own (o ∷ []) a.once (tt, tt) (λ k m x y e f h. let inside = at_length log x.place x.batch (a.each k x e).0 in let far : length log ≤ y.place = grind (arith, some-ne-none, at_end) in omega arith);
  }

-- the value of the slot that was taken last
abbrev pub head_key : {K : Type 0} → List (ℕ × Option K) → Option K
head_key [] = None
head_key (c ∷ cs) = c.1
