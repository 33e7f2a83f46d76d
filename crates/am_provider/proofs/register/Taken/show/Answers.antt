use Rattle.std.proofs.Common.{ap}
use Rattle.am_provider.proofs.Turns.{begun_of}
use Rattle.am_provider.proofs.register.Taken.show.Goals as goal

pub returns-clause-begun : goal.returns-clause-begun
returns-clause-begun g c =
    begun_of c.args.self.now.next _ _ c.args.self.now.turns _ _ _ _ c.args.self.now.counted c.args.self.now.seen c.show.ensures.seen (ap (λ f. f.seen) c.show.ensures.to) c.look.ensures.sees
