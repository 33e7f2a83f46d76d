use Rattle.std.proofs.Common.{◌≡◌, length, sym, ap, ◌∙◌, subst, arith}
use Rattle.am_segment.specs.Segments.{AreAllKeys, keys_of}
use Rattle.am_segment.proofs.Keys.{are-all, keys-length}
use Rattle.am_segment.proofs.builder.SegmentBuilder.seal.Given as given
use Rattle.am_segment.proofs.builder.SegmentBuilder.seal.Goals as goal
use Rattle.std.proofs.lemmas.Grind.{common_steps}

pub push_all-requires : goal.push_all-requires
push_all-requires g c = grind (arith, common_steps)

-- the list has all keys of the run
sealed : (g : given.Over) (c : goal.After-push_all g) → c.push_all.result.items ≡ keys_of c.hand_out.ensures.0 c.args.keys c.args.self.items
sealed g c = grind (arith, common_steps)

pub returns-clause-count : goal.returns-clause-count
returns-clause-count g c = ap length (sealed g c) ∙ keys-length c.hand_out.ensures.0 c.args.keys c.args.self.items

pub returns-clause-all : goal.returns-clause-all
returns-clause-all g c = subst AreAllKeys (sym (sealed g c)) (are-all c.hand_out.ensures.0 c.args.keys c.args.self.items c.requires)
