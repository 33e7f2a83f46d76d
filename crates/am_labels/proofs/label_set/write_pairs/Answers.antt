use Rattle.std.proofs.Common.{◌≡◌, ◌++◌, ◌∷◌, [], List, ℕ, sym, ap, refl, rules, ◌∙◌, append-nil, append_assoc}
use Rattle.std.proofs.Output.{has_written_append, has_written_of_eq}
use Rattle.std.specs.Fmt.{HasWritten}
use Rattle.std.specs.List.{flat_map}
use Rattle.am_labels.specs.Printing.{pair_text, pairs_text}
use Rattle.am_labels.proofs.Printing.Joins.{pairs_text-first}
use Rattle.am_labels.proofs.label_set.write_pairs.Goals as goal

pub loop-name-preserved : goal.loop-name-preserved
loop-name-preserved g c =
    let pair : List ℕ × List ℕ = (c.in-Some-2.name.now, c.in-Some-2.value.now) in
    let rest = c.next-in-loop-name.new.self in
    let split : c.loop-name.name-iterator ≡ pair ∷ rest = search rules in (
      tt,
      tt,
      λ plain.
          let so_far = c.loop-name.invariant.2 plain in
          let comma : HasWritten g.W.Write.write_str_gives c.loop-name.f (44 ∷ []) c.write_str.new.self = search rules in
          let one = has_written_append _ _ _ _ _ _ comma (c.in_ok-write_pair-2.ensures comma.plain refl) in (
            so_far.0 ++ 44 ∷ pair_text pair,
            has_written_append _ _ _ _ _ _ so_far.1 one,
            append_assoc so_far.0 (44 ∷ pair_text pair) (flat_map (λ p. 44 ∷ pair_text p) rest)
                ∙ ap (λ (pairs : List (List ℕ × List ℕ)). so_far.0 ++ flat_map (λ p. 44 ∷ pair_text p) pairs) (sym split)
                ∙ so_far.2,
          ),
    )

pub returns : goal.returns
returns g c =
    λ plain done.
    let first : List ℕ × List ℕ = (c.in-Some.name.now, c.in-Some.value.now) in
    let others = c.next.new.self in
    let split : c.args.pairs ≡ first ∷ others = search rules in
    let none : c.loop-name.name-iterator ≡ [] = search rules in
    let began = c.in_ok-write_pair.ensures plain refl in
    let so_far = c.loop-name.invariant.2 began.plain in
    let all : so_far.0 ≡ flat_map (λ p. 44 ∷ pair_text p) others =
    sym (append-nil so_far.0)
    ∙ ap (λ (pairs : List (List ℕ × List ℕ)). so_far.0 ++ flat_map (λ p. 44 ∷ pair_text p) pairs) (sym none)
    ∙ so_far.2 ∙ search rules in
    has_written_of_eq _ _ _ _ _
    (ap (λ (text : List ℕ). pair_text first ++ text) all ∙ (pairs_text-first first others ∙ ap pairs_text (sym split)))
    (has_written_append _ _ _ _ _ _ began so_far.1)
