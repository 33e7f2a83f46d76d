use Rattle.std.proofs.Common.{ap, arith}
use Rattle.am_provider.specs.inside.Endings.{EndingsView}
use Rattle.am_provider.proofs.Endings.{held_less}
use Rattle.am_provider.proofs.kept_endings.KeptEndings.let_go.Goals as goal

pub invariant_of-self : goal.invariant_of-self
invariant_of-self c =
    held_less _ _ _ _ _ c.self.invariant c.args.gone _ c.drop_before.new.endings.items
    (omega (arith, c.requires, ap (λ (v : EndingsView). v.gone) c.self.view_is)) c.drop_before.ensures.kept
    (omega (arith, c.len-had.ensures, c.len.ensures, c.self.inside.held.ok.0, c.drop_before.new.endings.ok.0))
