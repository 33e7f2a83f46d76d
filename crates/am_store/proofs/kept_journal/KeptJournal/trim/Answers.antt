use Rattle.std.proofs.Common.{ℕ, ◌+◌, ◌-◌, ◌≤◌, length, sym, subst, arith, length-drop}
use Rattle.std.proofs.lemmas.Grind.{common_steps}
use Rattle.am_store.specs.KeptJournals.{KeptView, calls_in, trimmed_to}
use Rattle.am_store.proofs.KeptJournals.{first_same, held_count, held_legal, kept_dropped, trims_more}
use Rattle.am_store.proofs.kept_journal.KeptJournal.trim.Goals as goal

pub drop_first-requires-clause-store : goal.drop_first-requires-clause-store
drop_first-requires-clause-store c = grind (arith, common_steps, first_same)

pub drop_first-requires-clause-legal : goal.drop_first-requires-clause-legal
drop_first-requires-clause-legal c = held_legal _ _ c.self.inside.held c.self.invariant

pub invariant_of-self : goal.invariant_of-self
invariant_of-self c =
    let more : ℕ = c.self.inside.before + c.args.count - c.self.inside.held.before in
    let long = held_count _ _ c.self.inside.held c.self.invariant in
    let all = length-drop c.self.inside.before (calls_in c.self.inside.calls.items) in
    let within : c.args.count ≤ length (trimmed_to c.self.inside.before (calls_in c.self.inside.calls.items)).calls =
    subst (λ (v : KeptView). c.args.count ≤ length v.journal.calls) (sym c.self.view_is) c.requires.within in
    kept_dropped _ _ c.self.inside.held c.self.invariant (c.self.inside.before + c.args.count) more c.drop_first.new.self
    (omega (arith, within, all, long, c.if-self.true)) c.drop_first.ensures.trimmed c.drop_first.ensures.counted
    (omega (arith, c.if-self.true, c.drop_first.ensures.trimmed.before))

pub returns-then-self-clause-trimmed : goal.returns-then-self-clause-trimmed
returns-then-self-clause-trimmed c = grind (arith, common_steps, trims_more)

pub returns-else-self-clause-trimmed : goal.returns-else-self-clause-trimmed
returns-else-self-clause-trimmed c = grind (arith, common_steps, trims_more)
