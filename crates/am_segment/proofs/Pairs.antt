-- A segment's name tells where its items lie and how many they are.
use Rattle.std.proofs.Common.{◌≡◌, ◌≢◌, ℕ, zero, suc, ◌+◌, ◌*◌, ◌^◌, length, refl, ap, ◌∙◌, arith, one-mul, pow-suc, mul_right_comm, mul_comm}
use denote.RawPtr.{Ptr, block_ptr, null_ptr}
use Rattle.am_segment.specs.declared.block.Part.{Part}
use Rattle.am_segment.specs.inside.Shares.{pair, address_number, name_of}

none : (b : ℕ) → pair zero b ≡ 2 * b + 1
none b = one-mul (2 * b + 1)

double : (a b : ℕ) → pair (suc a) b ≡ 2 * pair a b
double a b = ap (λ n. n * (2 * b + 1)) (pow-suc 2 a) ∙ mul_right_comm (2 ^ a) 2 (2 * b + 1) ∙ mul_comm (2 ^ a * (2 * b + 1)) 2

pub pair-inj : (a b c d : ℕ) → pair a b ≡ pair c d → (a ≡ c) × (b ≡ d)
pair-inj zero b zero d e = (refl, omega (arith, none b, none d, e))
pair-inj zero b (suc c) d e = absurd (omega (arith, none b, double c d, e))
pair-inj (suc a) b zero d e = absurd (omega (arith, double a b, none d, e))
pair-inj (suc a) b (suc c) d e = let rest = pair-inj a b c d (omega (arith, double a b, double c d, e)) in (ap suc rest.0, rest.1)

address-inj : (p q : Ptr) → address_number p ≡ address_number q → p ≡ q
address-inj (block_ptr b o) (block_ptr c u) e = let same = pair-inj b o c u (omega (arith, e)) in (λ i. block_ptr (same.0 i) (same.1 i))
address-inj (block_ptr b o) null_ptr e = absurd (omega (arith, e))
address-inj null_ptr (block_ptr c u) e = absurd (omega (arith, e))
address-inj null_ptr null_ptr e = refl

module _ {X : Type 0} where
  -- parts of one name are of one lifetime, at one address, with as many items and places
  pub same-name : (part other : Part X) → name_of other ≡ name_of part
      → (other.segment ≡ part.segment) × (other.ptr ≡ part.ptr) × (length other.items ≡ length part.items) × (other.places ≡ part.places)
  same-name part other e = grind (arith, pair-inj, address-inj)

  -- parts of different lifetimes have different names
  pub other-name : (part other : Part X) → part.segment ≢ other.segment → name_of part ≢ name_of other
  other-name part other apart e = apart (same-name other part e).0
