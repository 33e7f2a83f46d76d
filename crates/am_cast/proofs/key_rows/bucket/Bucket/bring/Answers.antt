use Rattle.std.proofs.Common.{ℕ, ◌<◌, length, length-set, sym, ap, ◌∙◌, subst}
use Rattle.am_cast.specs.inside.KeyRows.{BucketView}
use Rattle.am_cast.proofs.KeyRows.{Brought, may_add, may_end, one_more, last_more}
use Rattle.am_cast.proofs.key_rows.bucket.Bucket.bring.Given as given
use Rattle.am_cast.proofs.key_rows.bucket.Bucket.bring.Goals as goal

pub add-requires : goal.add-requires
add-requires g c = let r = c.requires in
    may_add c.args.place c.args.self.now.rows c.self.inside.rows.items c.in-Some.index c.index_mut-row.result.now c.args.key (ap (λ (b : BucketView g.row.T.Denot). b.rows) c.self.view_is) r.apart c.in-Some.ensures.some c.index_mut-row.ensures.value r.row

pub end_row-requires : goal.end_row-requires
end_row-requires g c = let r = c.requires in let rows = c.self.inside.rows.items in let small = c.in-Some.ensures.some.0 in (
  subst (λ (n : ℕ). c.in-Some.index < n) (ap (λ (b : BucketView g.row.T.Denot). length b.rows) (sym c.self.view_is) ∙ sym (length-set rows c.in-Some.index c.add.new.self)) small,
  λ row o. may_end c.args.place c.args.self.now.rows c.self.inside.rows.items c.in-Some.index c.index_mut-row.result.now c.add.new.self row c.args.key (ap (λ (b : BucketView g.row.T.Denot). b.rows) c.self.view_is) r.apart c.in-Some.ensures.some c.index_mut-row.ensures.value r.row c.add.ensures (sym c.is_full.ensures ∙ c.if-is_full.true) o,
)

gone : (g : given.Over) (c : goal.After-end_row g) → Brought c.args.place c.args.self.now.rows c.end_row.new.self.rows c.args.key
gone g c = last_more c.args.place c.args.self.now.rows c.self.inside.rows.items c.end_row.new.self.rows c.in-Some.index c.index_mut-row.result.now c.add.new.self c.args.key (ap (λ (b : BucketView g.row.T.Denot). b.rows) c.self.view_is) c.requires.apart c.in-Some.ensures.some c.index_mut-row.ensures.value c.add.ensures (sym c.is_full.ensures ∙ c.if-is_full.true) c.end_row.ensures.rows

pub returns-then-is_full-clause-here : goal.returns-then-is_full-clause-here
returns-then-is_full-clause-here g c = (gone g c).here

pub returns-then-is_full-clause-others : goal.returns-then-is_full-clause-others
returns-then-is_full-clause-others g c = (gone g c).others

pub returns-then-is_full-clause-apart : goal.returns-then-is_full-clause-apart
returns-then-is_full-clause-apart g c = (gone g c).apart

pub returns-then-is_full-clause-remainder : goal.returns-then-is_full-clause-remainder
returns-then-is_full-clause-remainder g c = (gone g c).remainder

kept : (g : given.Over) (c : goal.Else-is_full g) → Brought c.args.place c.args.self.now.rows (Rattle.std.proofs.Common.set c.self.inside.rows.items c.in-Some.index c.add.new.self) c.args.key
kept g c = one_more c.args.place c.args.self.now.rows c.self.inside.rows.items c.in-Some.index c.index_mut-row.result.now c.add.new.self c.args.key (ap (λ (b : BucketView g.row.T.Denot). b.rows) c.self.view_is) c.requires.apart c.in-Some.ensures.some c.index_mut-row.ensures.value c.add.ensures (sym c.is_full.ensures ∙ c.if-is_full.false)

pub returns-else-is_full-clause-here : goal.returns-else-is_full-clause-here
returns-else-is_full-clause-here g c = (kept g c).here

pub returns-else-is_full-clause-others : goal.returns-else-is_full-clause-others
returns-else-is_full-clause-others g c = (kept g c).others

pub returns-else-is_full-clause-apart : goal.returns-else-is_full-clause-apart
returns-else-is_full-clause-apart g c = (kept g c).apart

pub returns-else-is_full-clause-remainder : goal.returns-else-is_full-clause-remainder
returns-else-is_full-clause-remainder g c = (kept g c).remainder
