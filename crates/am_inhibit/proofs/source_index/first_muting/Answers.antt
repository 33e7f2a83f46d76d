use Rattle.std.proofs.Common.{◌≡◌, ◌-◌, ℕ, List, length, drop, take, arith}
use Rattle.std.proofs.lemmas.Grind.{common_steps}
use Rattle.std.proofs.lemmas.List.{take_all, length-drop}
use Rattle.am_inhibit.specs.declared.source.Source.{Source}
use Rattle.am_inhibit.specs.inside.LeadingTargets.{leading_targets}
use Rattle.am_inhibit.proofs.LeadingTargets.{found-past, counted-past}
use Rattle.am_inhibit.proofs.source_index.first_muting.Goals as goal

-- the sources after the leading ones
rest_is : (sources shown : List Source) (leading : ℕ) → shown ≡ sources → leading ≡ leading_targets sources → take (length shown - leading) (drop leading shown) ≡ drop (leading_targets sources) sources
rest_is sources shown leading same counts = grind (arith, common_steps, length-drop, take_all)

pub returns-clause-at : goal.returns-clause-at
returns-clause-at c = grind (arith, common_steps, rest_is, found-past)

pub returns-clause-looked : goal.returns-clause-looked
returns-clause-looked c = grind (arith, common_steps, rest_is, counted-past)
