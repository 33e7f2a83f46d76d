use Rattle.std.proofs.Common.{sym, ap, ◌∙◌, subst}
use Rattle.am_segment.specs.Segments.{AreAllKeys}
use Rattle.am_segment.specs.inside.Fields.{keys_held}
use Rattle.am_segment.specs.inside.Shares.{name_of}
use Rattle.am_segment.proofs.Shares.{whole}
use Rattle.am_segment.proofs.joined_keys.JoinedKeys.into_builder.Goals as goal

pub into_builder-requires : goal.into_builder-requires
into_builder-requires g c = let held = c.in-Some.held in let part = held.part in
    whole (name_of part) part.keys part.items part.numbers held.shares.0 (subst AreAllKeys (sym c.self.view_is ∙ ap keys_held c.in-Some.is) c.requires)
