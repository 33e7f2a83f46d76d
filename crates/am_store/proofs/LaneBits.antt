-- Lanes as the bits of a number.
use Rattle.std.proofs.Common.{◌≡◌, ℕ, ◌-◌, ◌*◌, ◌^◌, ◌%◌, ◌<◌, ◌≤◌, Bool, true, false, cond, ◌||◌, nat_eq, refl, sym, ap, ◌∙◌, arith, inl, inr, bit_and, bit_or, w8}
use Rattle.std.specs.Int.{bit_at}
use Rattle.std.proofs.lemmas.Bool.Decides.{eqb_tells}
use Rattle.std.proofs.lemmas.Bool.{cases_lt}
use Rattle.std.proofs.lemmas.Nat.Bits.{bit_at_set_same, bit_at_set_other, bit_at_clear_same, bit_at_clear_other, bit_at_and}
use lib.Pow.{pow_mono}
use Rattle.am_store.specs.declared.call.Call.TheVariants.{Subscribed, Left}
use Rattle.am_store.specs.LaneSets.{has_lane}
use Rattle.am_store.specs.Journal.{open_after}

or_true : (b : Bool) → (b || true) ≡ true
or_true true = refl
or_true false = refl

or_false : (b : Bool) → (b || false) ≡ b
or_false true = refl
or_false false = refl

pub lane_set : (lanes lane : ℕ) → lane < 8 → (other : ℕ) → has_lane (bit_or lanes (1 * 2 ^ lane % 256)) other ≡ open_after other (has_lane lanes other) (Subscribed lane)
lane_set lanes lane low other =
    elim (eqb_tells lane other) [
      | inl e ↦
          ap (λ n. has_lane (bit_or lanes (1 * 2 ^ lane % 256)) n) (sym e.1)
          ∙ (ap (λ bit. nat_eq bit 1) (bit_at_set_same w8 lanes lane low)
          ∙ sym (ap (λ b. has_lane lanes other || b) e.0 ∙ or_true (has_lane lanes other)))
      | inr e ↦
          ap (λ bit. nat_eq bit 1) (bit_at_set_other w8 lanes lane low other (λ same. e.1 (sym same)))
          ∙ sym (ap (λ b. has_lane lanes other || b) e.0 ∙ or_false (has_lane lanes other))
    ]

-- the bits past the eighth are clear
past : (n i : ℕ) → n < 256 → 8 ≤ i → bit_at n i ≡ 0
past n i small high = let grows : 2 ^ 8 ≤ 2 ^ i = pow_mono high in grind arith

-- a lane past the eighth isn't open
pub high_lane : (lanes other : ℕ) → lanes < 256 → 8 ≤ other → has_lane lanes other ≡ false
high_lane lanes other small high = ap (λ bit. nat_eq bit 1) (past lanes other small high)

pub lane_cleared : (lanes lane : ℕ) → lanes < 256 → lane < 8 → (other : ℕ) → has_lane (bit_and lanes (255 - 1 * 2 ^ lane % 256)) other ≡ open_after other (has_lane lanes other) (Left lane)
lane_cleared lanes lane small low other =
    elim (eqb_tells lane other) [
      | inl e ↦
          ap (λ n. has_lane (bit_and lanes (255 - 1 * 2 ^ lane % 256)) n) (sym e.1)
          ∙ (ap (λ bit. nat_eq bit 1) (bit_at_clear_same w8 lanes lane low)
          ∙ sym (ap (λ b. cond b false (has_lane lanes other)) e.0))
      | inr e ↦
          elim (cases_lt other 8) [
            | inl within ↦ ap (λ bit. nat_eq bit 1) (bit_at_clear_other w8 lanes lane low other within (λ same. e.1 (sym same)))
            | inr high ↦
                let none : bit_at lanes other ≡ 0 = past lanes other small (omega arith) in
                let both : bit_at (bit_and lanes (255 - 1 * 2 ^ lane % 256)) other ≡ 0 = omega (arith, bit_at_and lanes (255 - 1 * 2 ^ lane % 256) other, none) in
                ap (λ bit. nat_eq bit 1) (both ∙ sym none)
          ]
          ∙ sym (ap (λ b. cond b false (has_lane lanes other)) e.0)
    ]
