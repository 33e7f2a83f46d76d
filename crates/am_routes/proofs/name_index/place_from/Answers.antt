use Rattle.std.proofs.Common.{rules, ◌≡◌, ℕ, true, false, Option, None, Some, List, Bor, is_some, length, get_or, ltb, nat_le, arith, sym, ◌∙◌}
use Rattle.std.proofs.lemmas.Grind.{common_steps}
use Rattle.std.specs.List.{slice_get}
use Rattle.std.specs.Option.{option_copied, IfSome}
use Rattle.std.proofs.lemmas.Option.{slice_get_past, slice_get-get_or}
use Rattle.std.proofs.lemmas.List.Sorted.{IsPartitionPoint-from_clause, IsPartitionedBy-ltb}
use Rattle.am_routes.proofs.ChildIndexes.{found-at}
use Rattle.am_routes.proofs.name_index.place_from.Goals as goal

below : (a b : ℕ) → ltb a b ≡ true → nat_le b a ≡ false
below a b h = grind arith

above : (a b : ℕ) → ltb a b ≡ false → nat_le b a ≡ true
above a b h = grind arith

read : (xs : List ℕ) (at : ℕ) (o : Option (Bor ℕ)) → is_some o ≡ ltb at (length xs) → IfSome o (λ x. x.now ≡ get_or xs at x.now) → option_copied o ≡ slice_get xs at
read xs at None some value = sym (slice_get_past xs at (grind arith))
read xs at (Some x) some value = grind (arith, common_steps, slice_get-get_or)

pub returns : goal.returns
returns c = λ rising.
    let places = c.args.places.now in
    let at = c.partition_point.result in
    let parted = IsPartitionedBy-ltb (λ (place : ℕ). place) places c.args.from rising in
    let point = IsPartitionPoint-from_clause (λ (place : ℕ). ltb place c.args.from) _ _ c.partition_point.ensures.partitioned parted (λ a r q k. search rules) in
    c.copied.ensures
    ∙ (read places at c.get.result c.get.ensures.lookup.0 c.get.ensures.lookup.1
    ∙ found-at (nat_le c.args.from) places at (λ k d h. below _ _ (point.0 k d (omega arith) h)) (λ d h. above _ _ (point.1 at d (omega arith) h)))
