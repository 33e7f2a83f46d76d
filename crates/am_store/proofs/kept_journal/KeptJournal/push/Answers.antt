use Rattle.std.proofs.Common.{◌≡◌, ◌++◌, ◌∷◌, [], List, sym, ap, subst, ◌∙◌}
use Rattle.am_store.specs.declared.call.Call.{Call}
use Rattle.am_store.specs.Journal.{journal_of, with_call, MayFollow}
use Rattle.am_store.specs.KeptJournals.{KeptView, IsKeptJournal, calls_in}
use Rattle.am_store.proofs.KeptJournals.{calls_more, counted_with, kept_pushed}
use Rattle.am_store.proofs.kept_journal.KeptJournal.push.Goals as goal

pub invariant_of-self : goal.invariant_of-self
invariant_of-self c =
    let held = c.self.inside.held in let all = calls_in c.self.inside.calls.items in
    let more : calls_in c.push_reserved.new.self.items ≡ all ++ c.args.call ∷ [] =
    ap calls_in c.push_reserved.ensures.items ∙ calls_more c.self.inside.calls.items c.of.result c.args.call c.of.ensures in
    let grown : journal_of (record held { calls = c.push_back_reserved.new.self }) ≡ with_call (journal_of held) c.args.call =
    ap (λ (calls : List Call). record (journal_of held) { calls = calls }) c.push_back_reserved.ensures.items in
    subst (λ (calls : List Call). IsKeptJournal c.self.inside.before calls (record held { calls = c.push_back_reserved.new.self })) (sym more)
    (kept_pushed _ all held c.self.invariant c.args.call (record held { calls = c.push_back_reserved.new.self })
    (subst (λ (v : KeptView). MayFollow v.journal c.args.call) (sym c.self.view_is) c.requires.may) grown
    (counted_with held c.push_back_reserved.new.self c.self.invariant.counted))
