use Rattle.std.proofs.Common.{arith}
use Rattle.std.proofs.lemmas.Grind.{common_steps}
use Rattle.am_keyed.proofs.Entries.{values-inserted, still_kept, put_back, added_back}
use Rattle.am_keyed.proofs.keyed.KeyedList.put.Goals as goal

pub invariant_of-self-in-None : goal.invariant_of-self-in-None
invariant_of-self-in-None g c = grind (arith, common_steps, still_kept)

pub returns-in-Some-clause-undo : goal.returns-in-Some-clause-undo
returns-in-Some-clause-undo g c = grind (arith, common_steps, put_back, g.met.V.HasKey.same, g.met.K.Eq.laws)

pub returns-in_ok-insert-in-None-clause-put : goal.returns-in_ok-insert-in-None-clause-put
returns-in_ok-insert-in-None-clause-put g c = grind (arith, common_steps, values-inserted)

pub returns-in_ok-insert-in-None-clause-undo : goal.returns-in_ok-insert-in-None-clause-undo
returns-in_ok-insert-in-None-clause-undo g c =
    let put = returns-in_ok-insert-in-None-clause-put g c in
    grind (arith, common_steps, added_back)
