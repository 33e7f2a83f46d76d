use Rattle.std.proofs.Common.{◌≡◌, flat_map}
use Rattle.std.specs.Hash as fed
use Rattle.std.specs.Hash.FoldHasher as folding
use Rattle.std.specs.List.{fold}
use Rattle.am_labels.specs.LabelLaws.{lengths_of, pairs_hash}
use Rattle.am_labels.proofs.shared_pairs.hash_of.Given as goal

-- with those that are left the hasher comes to the hash
abbrev pub invariant-loop-name : goal.invariant-loop-name
invariant-loop-name l =
    (goal.iterator-loop-name).can_next l.name-iterator ×
    (goal.iterator-loop-name).is_finite l.name-iterator ×
    (pairs_hash l.fn.pairs ≡ folding.finish (fold folding.write l.state (flat_map (λ p. fed.u64 (lengths_of p)) l.name-iterator)))
