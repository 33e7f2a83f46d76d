use Rattle.std.proofs.Common.{rules, ◌≡◌, Bool, not, filter, length, refl, sym, ap, subst, ◌∙◌, arith}
use Rattle.std.specs.Map.{values_of}
use Rattle.std.proofs.lemmas.List.Sums.{length-filter}
use Rattle.std.proofs.lemmas.List.Filters.{length-filter_both}
use Rattle.std.proofs.lemmas.Map.Entries.{length-values_of}
use Rattle.indexmap.proofs.CallerLemmas.{filter-RetainsPairs}
use Rattle.am_keyed.specs.inside.Entries.{AreOwnKeys}
use Rattle.am_keyed.proofs.Entries.{values-filtered, still_filtered}
use Rattle.am_keyed.proofs.keyed.KeyedList.remove.Given.{Over}
use Rattle.am_keyed.proofs.keyed.KeyedList.remove.Goals as goal

stays : (g : Over) (c : goal.After-len g) → g.row.V.Denot → Bool
stays g c value = not (g.R.Removes.is_removed c.args.which.now value)

left : (g : Over) (c : goal.After-len g) → c.retain.new.self.entries ≡ filter (λ entry. stays g c entry.1) c.self.inside.values.entries
unfolding stays
left g c = filter-RetainsPairs _ _ _ (λ k v b w f call. search rules) _ _ c.retain.ensures.filtered

pub invariant_of-self : goal.invariant_of-self
invariant_of-self g c = subst (AreOwnKeys g.V.HasKey.key) (sym (left g c)) (still_filtered g.V.HasKey.key (stays g c) c.self.inside.values.entries c.self.invariant)

pub returns-clause-left : goal.returns-clause-left
unfolding stays
returns-clause-left g c = ap values_of (left g c) ∙ (values-filtered g.V.HasKey.key (stays g c) c.self.inside.values.entries ∙ ap (filter (stays g c)) c.self.view_is)

pub returns-clause-removed : goal.returns-clause-removed
returns-clause-removed g c =
    let gone = g.R.Removes.is_removed c.args.which.now in
    let olds = c.args.self.now in
    let both = length-filter_both gone (λ value. not (gone value)) (λ value. refl) olds in
    omega (arith, both, ap length (returns-clause-left g c), length-filter gone olds, length-values_of c.self.inside.values.entries, length-values_of c.retain.new.self.entries, ap length c.self.view_is, c.len-before.ensures.len, c.len.ensures.len)
