use Rattle.std.proofs.Common.{◌*◌}
use Rattle.am_segment.specs.Segments.{KeyView}
use Rattle.am_cast.specs.declared.limits.TheConstants.{LANES}
use Rattle.am_cast.specs.Keys.{key_of}
use Rattle.am_cast.proofs.Seats.{begins, all_none, length_none}
use Rattle.am_cast.proofs.parts.Parts.make.Goals as goal

pub vacant-requires : goal.vacant-requires
vacant-requires g c = let w = c.first_words-words.ensures in begins key_of _ _ c.args.places w.tail.0 w.tail.1 w.lanes (length_none (KeyView g.row.T.Denot) (LANES * c.args.places)) (all_none (KeyView g.row.T.Denot) (LANES * c.args.places)) c.requires.0
