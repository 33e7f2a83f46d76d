use Rattle.std.proofs.Common.{◌≡◌, length, arith}
use Rattle.std.proofs.lemmas.Grind.{common_steps}
use Rattle.am_store.proofs.KeptJournals.{stored_same, held_legal, kept_dropped}
use Rattle.am_store.proofs.kept_journal.KeptJournal.compact.Goals as goal

pub drop_first-requires-clause-store : goal.drop_first-requires-clause-store
drop_first-requires-clause-store c = grind (arith, common_steps, stored_same)

pub drop_first-requires-clause-legal : goal.drop_first-requires-clause-legal
drop_first-requires-clause-legal c = held_legal _ _ c.self.inside.held c.self.invariant

pub invariant_of-self : goal.invariant_of-self
invariant_of-self c =
    let all : length c.self.inside.held.calls.items ≡ c.len-count.result = omega (arith, c.len-count.ensures, c.self.inside.held.calls.ok.0) in
    kept_dropped _ _ c.self.inside.held c.self.invariant c.self.inside.before c.len-count.result c.drop_first.new.self
    (omega (arith, all)) c.drop_first.ensures.trimmed c.drop_first.ensures.counted (omega (arith, c.self.invariant.few, c.drop_first.ensures.trimmed.before))
