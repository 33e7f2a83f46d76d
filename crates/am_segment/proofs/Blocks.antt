-- A block whose next place, or last item, is taken out and put back.
use Rattle.std.proofs.Common.{◌≡◌, ℕ, zero, suc, ◌+◌, ◌-◌, ◌*◌, ◌^◌, ◌<◌, List, [], ◌∷◌, ◌++◌, length, length-append, refl, sym, ap, arith}
use Rattle.core.specs.Allocator.{array_of}
use Rattle.std_alloc.proofs.RawLayout.{as_raw, as_written}
use Rattle.std_alloc.proofs.VecSteps.El.{El, R, el_x, elτ, sz}
use Rattle.std_alloc.proofs.VecSteps.Rows.{spare, unspare, snoc, unsnoc, all_room, empty}
use native.Mathlib.Nat.{zero-mul}
use seplogic.Ra.Ura.{Ura}
use base.Fml.{Fml, fsep, flt, froom}
use base.Fraction.{full_share}
use base.Logic.{ent, sep, guard, never, id⊢}
use mir.Syntax.{Ty, ty_array}
use types.Kit.{‵, ◌⊛◌, ◌$◌, ◌∵◌, !, qed, by, move, keep, split, fsplit, fjoin, flt_l, flt_i, use0, use1, use2, rewrite, check, done}
use types.Logic.{Logic, sem}
use denote.Array.{Array}
use denote.Memory.{part_at}
use denote.RawPtr.{Ptr, block_ptr, null_ptr}
use Rattle.am_segment.specs.inside.Ownership.{block_owns}

no_less : (n : ℕ) → n ≡ n - 0
no_less n = omega arith

no_more : (o s : ℕ) → o ≡ o + 0 * s
no_more o s = omega (arith, zero-mul s)

module _ (E : El) {M : Type 1} {𝓤 : Ura M} (𝓛 : Logic 𝓤) (t : Ty → Ptr → Fml) (places : ℕ) where
  open 𝓛 use {H}

  abbrev Owns : Ptr → List (el_x E) → Fml
  Owns p items = block_owns t (R E) p places items

  -- no block lies at null
  pub nowhere : (items : List (el_x E)) → ent 𝓤 (sem 𝓛 (Owns null_ptr items)) (never 𝓤)
  nowhere items = qed 𝓛 (‵ (Owns null_ptr items) ∷ []) {P = never 𝓤} (fsplit ! $ fsplit ! $ keep ! (1 ∷ []) $ by ! (id⊢ 𝓤 (never 𝓤)))

  pub fits : (p : Ptr) (items : List (el_x E)) → ent 𝓤 (sem 𝓛 (Owns p items)) (guard 𝓤 (places * sz E < 2 ^ 63) (sem 𝓛 (Owns p items)))
  fits p items = qed 𝓛 (‵ (Owns p items) ∷ []) ∵ fsplit ! $ fsplit ! $ flt_l ! (λ small.
      flt_i ! (places * sz E) (2 ^ 63) small $ fjoin ! $ fjoin ! $ check ! small $ done !)

  module _ (b o : ℕ) (small : places * sz E < 2 ^ 63) where
    abbrev p : Ptr
    p = block_ptr b o

    abbrev τ : Ty
    τ = elτ E

    -- what such a block owns, where the number of its items is k
    abbrev Counted : ℕ → List (el_x E) → Fml
    Counted k items = fsep (fsep (flt (places * sz E) (2 ^ 63)) (part_at (Array (R E) k) full_share items b o))
        (fsep (froom (array_of (R E) (places - k)) b (o + k * sz E)) (t (array_of (R E) places) p))

    -- so many items, and what lies behind the place that follows them
    abbrev pub Around : ℕ → List (el_x E) → Fml
    Around n items = fsep (part_at (Array (R E) n) full_share items b o)
        (fsep (froom (ty_array τ (places - (n + 1))) b (o + (n + 1) * sz E)) (t (array_of (R E) places) p))

    pub place_out : (n : ℕ) (items : List (el_x E)) → n ≡ length items → n < places
        → ent 𝓤 (sem 𝓛 (Owns p items)) (sep 𝓤 (H.room τ b (n * sz E + o)) (sem 𝓛 (Around n items)))
    place_out n items long some = qed 𝓛 (‵ (Owns p items) ∷ []) ∵
        rewrite ! 0 (λ (k : ℕ). ‵ (Counted k items)) (sym long) refl $
        fsplit ! $ fsplit ! $ flt_l ! (λ _. move ! (1 ∷ []) $ fsplit ! $
        as_written ! (ty_array τ (places - n)) b (o + n * sz E) $
        use1 𝓛 (‵ (froom τ b (n * sz E + o)) ⊛ ‵ (froom (ty_array τ (places - (n + 1))) b (o + (n + 1) * sz E))) (spare E 𝓛 b o n places some) $ split ! $
        -- [the place; the places behind it; the right to free; the items]
        move ! (1 ∷ 2 ∷ []) $ fjoin ! $ move ! (2 ∷ 0 ∷ []) $ fjoin ! $ move ! (1 ∷ []) $ done !)

    pub place_in : (n : ℕ) (items : List (el_x E)) → n ≡ length items → n < places
        → ent 𝓤 (sep 𝓤 (H.room τ b (n * sz E + o)) (sem 𝓛 (Around n items))) (sem 𝓛 (Owns p items))
    place_in n items long some = qed 𝓛 (‵ (froom τ b (n * sz E + o)) ∷ ‵ (Around n items) ∷ []) ∵ move ! (1 ∷ []) $ fsplit ! $ move ! (1 ∷ []) $ fsplit ! $ move ! (3 ∷ 0 ∷ []) $
        use2 𝓛 (‵ (froom (ty_array τ (places - n)) b (o + n * sz E))) (unspare E 𝓛 b o n places some) $
        as_raw ! (ty_array τ (places - n)) b (o + n * sz E) $ fjoin ! $ move ! (1 ∷ []) $ flt_i ! (places * sz E) (2 ^ 63) small $ fjoin ! $ move ! (0 ∷ 1 ∷ []) $ fjoin ! $
        rewrite ! 0 (λ (k : ℕ). ‵ (Counted k items)) long refl $ done !

    pub item_in : (n : ℕ) (items : List (el_x E)) (x : el_x E) → n ≡ length items
        → ent 𝓤 (sep 𝓤 (sem 𝓛 (part_at (R E) full_share x b (n * sz E + o))) (sem 𝓛 (Around n items))) (sem 𝓛 (Owns p (items ++ x ∷ [])))
    item_in n items x long = let more : n + 1 ≡ length (items ++ x ∷ []) = omega (arith, length-append items (x ∷ [])) in
        qed 𝓛 (‵ (part_at (R E) full_share x b (n * sz E + o)) ∷ ‵ (Around n items) ∷ []) ∵ move ! (1 ∷ []) $ fsplit ! $ move ! (0 ∷ 2 ∷ []) $
        use2 𝓛 (‵ (part_at (Array (R E) (n + 1)) full_share (items ++ x ∷ []) b o)) (snoc E 𝓛 b o n items x) $ flt_i ! (places * sz E) (2 ^ 63) small $ fjoin ! $
        move ! (1 ∷ []) $ fsplit ! $ as_raw ! (ty_array τ (places - (n + 1))) b (o + (n + 1) * sz E) $ fjoin ! $ move ! (1 ∷ 0 ∷ []) $ fjoin ! $
        rewrite ! 0 (λ (k : ℕ). ‵ (Counted k (items ++ x ∷ []))) more refl $ done !

    pub item_out : (n : ℕ) (items : List (el_x E)) (x : el_x E) → n ≡ length items
        → ent 𝓤 (sem 𝓛 (Owns p (items ++ x ∷ []))) (sep 𝓤 (sem 𝓛 (part_at (R E) full_share x b (n * sz E + o))) (sem 𝓛 (Around n items)))
    item_out n items x long = let more : n + 1 ≡ length (items ++ x ∷ []) = omega (arith, length-append items (x ∷ [])) in
        qed 𝓛 (‵ (Owns p (items ++ x ∷ [])) ∷ []) ∵
        rewrite ! 0 (λ (k : ℕ). ‵ (Counted k (items ++ x ∷ []))) (sym more) refl $
        fsplit ! $ fsplit ! $ flt_l ! (λ _. use1 𝓛 (‵ (part_at (Array (R E) n) full_share items b o) ⊛ ‵ (part_at (R E) full_share x b (n * sz E + o))) (unsnoc E 𝓛 b o (n + 1) n items x (sym long)) $ split ! $
        move ! (2 ∷ []) $ fsplit ! $ as_written ! (ty_array τ (places - (n + 1))) b (o + (n + 1) * sz E) $ fjoin ! $ move ! (1 ∷ 0 ∷ []) $ fjoin ! $ move ! (1 ∷ []) $ done !)

    -- room for all places, and the right to free it
    abbrev pub Empty : Fml
    Empty = fsep (froom (ty_array τ places) b o) (t (array_of (R E) places) p)

    pub empty_in : ent 𝓤 (sem 𝓛 Empty) (sem 𝓛 (Owns p []))
    empty_in = qed 𝓛 (‵ Empty ∷ []) ∵ fsplit ! $
        rewrite ! 0 (λ (k : ℕ). ‵ (froom (ty_array τ k) b o)) (no_less places) refl $
        rewrite ! 0 (λ (k : ℕ). ‵ (froom (ty_array τ (places - 0)) b k)) (no_more o (sz E)) refl $
        as_raw ! (ty_array τ (places - 0)) b (o + 0 * sz E) $ fjoin ! $
        use0 𝓛 (‵ (part_at (Array (R E) 0) full_share [] b o)) (empty E 𝓛 [] b o refl) $ flt_i ! (places * sz E) (2 ^ 63) small $ fjoin ! $ fjoin ! $ done !

    pub empty_out : ent 𝓤 (sem 𝓛 (Owns p [])) (sem 𝓛 Empty)
    empty_out = qed 𝓛 (‵ (Owns p []) ∷ []) ∵ fsplit ! $ fsplit ! $ flt_l ! (λ _. move ! (1 ∷ []) $ fsplit ! $
        as_written ! (ty_array τ (places - 0)) b (o + 0 * sz E) $ move ! (2 ∷ 0 ∷ []) $
        use2 𝓛 (‵ (froom (ty_array τ places) b o)) (all_room E 𝓛 b o 0 places [] (omega arith)) $ fjoin ! $ done !)

-- a list that is one longer than n ends in an item
pub last_of : {X : Type 0} (n : ℕ) (xs : List X) → n + 1 ≡ length xs → (us : List X) × (x : X) × (xs ≡ us ++ x ∷ []) × (n ≡ length us)
last_of n [] e = absurd (omega arith)
last_of zero (x ∷ []) e = ([], x, refl, refl)
last_of (suc n) (x ∷ []) e = absurd (omega arith)
last_of zero (x ∷ y ∷ xs) e = absurd (omega arith)
last_of (suc n) (x ∷ y ∷ xs) e = let on = last_of n (y ∷ xs) (omega arith) in (x ∷ on.0, on.1, ap (λ l. x ∷ l) on.2, ap suc on.3)
