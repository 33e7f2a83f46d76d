use Rattle.std.proofs.Common.{ap, ◌∙◌, arith}
use Rattle.am_segment.specs.Segments.{key_with}
use Rattle.am_segment.specs.inside.Shares.{name_of}
use Rattle.am_segment.proofs.Shares.{all-hold}
use Rattle.am_segment.proofs.builder.SegmentBuilder.hand_out.Goals as goal
use Rattle.std.proofs.lemmas.Grind.{common_steps}

pub invariant_of-rest : goal.invariant_of-rest
invariant_of-rest g c = grind (arith, common_steps, all-hold)

pub returns : goal.returns
returns g c = let of = c.share-claim.ensures in let part = c.share-claim.result.1 in let items = of.part.1 ∙ ap (λ v. v.items) c.self.view_is in
    (name_of part, λ i. key_with (name_of part) (of.key.0 i) (items i) 0)
