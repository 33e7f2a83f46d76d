use Rattle.std.proofs.Common.{[], ◌∷◌}
use Rattle.am_runner.proofs.session.Session.compact_and_vouch.Goals as goal

pub returns : goal.returns
returns g c config setting = record {
  given = c.compact-dropped.result ∷ [];
  mid = c.compact-dropped.new.self;
  counted = c.count_stored-stored.new.self;
  compacts = c.compact-dropped.ensures config setting;
  counts = c.count_stored-stored.ensures config setting;
  vouches = c.vouch.ensures;
}
