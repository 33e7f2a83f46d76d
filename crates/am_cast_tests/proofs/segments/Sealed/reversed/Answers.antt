use Rattle.std.proofs.Common.{rules, ◌≡◌, List, length, nat_eq, cond, vec_len, sym, ◌∙◌, arith, get_or}
use Rattle.std.specs.Prelude.{IsPermutation}
use Rattle.std.proofs.lemmas.List.Sorted.{All-permutation, sum_by-IsPermutation}
use Rattle.std.specs.List.{All}
use Rattle.am_segment.specs.Segments.{KeyView, AreAllKeys}
use Rattle.am_cast_tests.proofs.segments.Sealed.reversed.Goals as goal

-- all keys are all of them in any order
in-any-order : {X : Type 0} (keys others : List (KeyView X)) → IsPermutation keys others → length others ≡ length keys → AreAllKeys keys → AreAllKeys others
in-any-order keys others moved long are = let some = are.some in record {
  some = omega arith;
  of_one = All-permutation (λ key. All (λ other. other.segment ≡ key.segment) others) keys others moved
      (λ k d within. All-permutation (λ other. other.segment ≡ (get_or keys k d).segment) keys others moved (are.of_one k d within));
  as_many = All-permutation (λ key. key.keys ≡ length others) keys others moved (λ k d within. are.as_many k d within ∙ sym long);
  each_once = λ number below. sum_by-IsPermutation (λ key. cond (nat_eq key.number number) 1 0) keys others moved ∙ are.each_once number (omega arith);
}

pub invariant_of-result : goal.invariant_of-result
invariant_of-result g c = let old = c.args.self.keys in let new = c.reverse.new.self in let same = c.reverse.ensures.len in
    let before : vec_len old ≡ length old.items = search rules in let after : vec_len new ≡ length new.items = search rules in record {
      all = in-any-order old.items new.items c.reverse.ensures.permutation (omega arith) c.args.self.all;
    }
