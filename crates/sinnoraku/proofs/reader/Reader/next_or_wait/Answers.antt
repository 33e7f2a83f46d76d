use Rattle.std.proofs.Common.{subst}
use Rattle.am_provider.specs.Showings.{Shows}
use Rattle.sinnoraku.proofs.reader.Reader.next_or_wait.Goals as goal

pub returns-in-Err-clause-next : goal.returns-in-Err-clause-next
returns-in-Err-clause-next g c =
    let loan = c.next-in-loop-turn.follows in
    let shows = subst (λ step. Shows c.loop-turn.self.subscription step loan.lender-at-none) c.in-Item.is loan.holds-at-none in
    (c.in-Item.alert.now, (c.loop-turn.self.subscription, c.loop-turn.invariant.2, shows))
