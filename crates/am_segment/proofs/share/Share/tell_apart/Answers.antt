use Rattle.am_segment.proofs.Pairs.{other-name}
use Rattle.am_segment.proofs.share.Share.tell_apart.Goals as goal

pub returns-clause-apart : goal.returns-clause-apart
returns-clause-apart g c = other-name c.args.self.part c.args.other.part c.tell_apart-part.ensures.apart
