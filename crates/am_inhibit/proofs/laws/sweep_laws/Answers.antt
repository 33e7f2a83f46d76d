use Rattle.am_inhibit.proofs.Sweeping.{sweep_keeps_none_resolved, sweep_keeps_answers, sweep_keeps_rules, sweep_spares_resolved}
use Rattle.am_inhibit.proofs.laws.sweep_laws.Goals as goal

pub returns-clause-resolved : goal.returns-clause-resolved
returns-clause-resolved c = sweep_keeps_none_resolved

pub returns-clause-answers : goal.returns-clause-answers
returns-clause-answers c = sweep_keeps_answers

pub returns-clause-rules : goal.returns-clause-rules
returns-clause-rules c = sweep_keeps_rules

pub returns-clause-looked : goal.returns-clause-looked
returns-clause-looked c = sweep_spares_resolved
