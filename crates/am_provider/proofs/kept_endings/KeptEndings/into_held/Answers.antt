use Rattle.std.proofs.Common.{◌+◌, ◌∙◌, length, filter, ap}
use Rattle.am_provider.specs.inside.Endings.{EndingsView, is_since}
use Rattle.am_provider.proofs.Endings.{held_of_left, others_of_left}
use Rattle.am_provider.proofs.kept_endings.KeptEndings.into_held.Goals as goal

pub returns-clause-held : goal.returns-clause-held
returns-clause-held c = held_of_left _ _ _ _ _ c.self.invariant ∙ ap (λ (v : EndingsView). filter (is_since v.gone) v.endings) c.self.view_is

pub returns-clause-others : goal.returns-clause-others
returns-clause-others c = others_of_left _ _ _ _ _ c.self.invariant ∙ ap (λ (v : EndingsView). v.early + length v.endings) c.self.view_is
