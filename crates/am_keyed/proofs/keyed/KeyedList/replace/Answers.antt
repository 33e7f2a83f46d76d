use Rattle.std.proofs.Common.{◌≡◌, Some, arith}
use Rattle.std.proofs.lemmas.Grind.{common_steps}
use Rattle.std.specs.List.{position}
use Rattle.std.specs.Map.{keys_of}
use Rattle.indexmap.specs.IndexMap.{insert_entry, set_value_at}
use Rattle.indexmap.proofs.MapLemmas.{Found-position}
use Rattle.am_keyed.proofs.Entries.{values-inserted, still_kept, found-kept, written_at}
use Rattle.am_keyed.proofs.keyed.KeyedList.replace.Given.{Over}
use Rattle.am_keyed.proofs.keyed.KeyedList.replace.Goals as goal

found : (g : Over) (c : goal.After-self-1 g) → position (g.K.PartialEq.eq (g.V.HasKey.key c.args.value)) (keys_of c.self.inside.values.entries) ≡ Some c.args.at
found g c = grind (arith, common_steps)

put : (g : Over) (c : goal.After-self-1 g) → set_value_at c.self.inside.values.entries c.args.at c.replace.new.dest ≡ insert_entry g.K.PartialEq.eq c.self.inside.values.entries (g.V.HasKey.key c.args.value) c.args.value
put g c = grind (arith, common_steps, written_at, found)

pub invariant_of-self : goal.invariant_of-self
invariant_of-self g c = grind (arith, common_steps, put, still_kept)

pub returns-clause-replaced : goal.returns-clause-replaced
returns-clause-replaced g c = grind (arith, common_steps, put, values-inserted)

pub returns-clause-before : goal.returns-clause-before
returns-clause-before g c =
    let seen = found-kept g.K.PartialEq.eq g.V.HasKey.key c.self.inside.values.entries (g.V.HasKey.key c.args.value) c.self.invariant in
    let first = Found-position (g.K.PartialEq.eq (g.V.HasKey.key c.args.value)) c.self.inside.values.entries c.args.at (found g c) in
    grind (arith, common_steps)
