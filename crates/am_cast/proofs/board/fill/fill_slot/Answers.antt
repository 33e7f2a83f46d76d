use Rattle.std.proofs.Common.{arith, ◌≡◌, ℕ, List, ◌∷◌, Option, Some, None, refl, sym, ap, ◌∙◌}
use Rattle.atomic_table.specs.Table.{rest}
use Rattle.am_cast.specs.declared.views.Account.{Account}
use Rattle.am_cast.specs.declared.views.WriterView.{WriterView}
use Rattle.am_cast.specs.Rule.{slot}
use Rattle.am_cast.specs.Changes.{with_account, reaching, laying}
use Rattle.am_cast.specs.Seats.{writer_of, account_of}
use Rattle.am_cast.proofs.Accounts.{knows_of, knows_after, twice}
use Rattle.am_cast.proofs.steps.Reach.{reaches}
use Rattle.am_cast.proofs.steps.Lay.{lays}
use Rattle.am_cast.proofs.board.fill.fill_slot.Goals as goal

pub load-requires : goal.load-requires
load-requires g c = let t = c.requires.table in let d = c.requires.writer in let b = c.requires.account in let q = writer_of c.args.seat.now.me.0 in let all = d.1 in
    (t.0, omega arith, reaches g.R.Keyed.key _ _ c.args.seat.now.me c.args.lane q (account_of q c.args.lane) (knows_of c.args.seat.now.me.0 q c.args.lane d.0.0 (omega arith)) b.0 b.1 b.2 b.3)

pub lay_in-requires-clause-bare : goal.lay_in-requires-clause-bare
lay_in-requires-clause-bare g c = let t = c.requires.table in let d = c.requires.writer in let b = c.requires.account in let q = writer_of c.args.seat.now.me.0 in let all = d.1 in
    let e = (c.load.ensures.2 c.args.lane q (account_of q c.args.lane) refl (knows_of c.args.seat.now.me.0 q c.args.lane d.0.0 (omega arith))).1 in
    let is : c.load.new.seat.me.1 ≡ (c.args.at, None) ∷ c.args.seat.now.me.1 = e ∙ (λ i. (sym b.4 i, None) ∷ c.args.seat.now.me.1) in
    is ∙ ap (λ (l : List (ℕ × Option g.row.K.Denot)). (c.args.at, None) ∷ rest l) (sym is)

pub load-requires-2 : goal.load-requires-2
load-requires-2 g c = let t = c.requires.table in let d = c.requires.writer in let b = c.requires.account in let q : WriterView g.row.B.Denot g.row.K.Denot g.row.A.Denot = writer_of c.args.seat.now.me.0 in let all = d.1 in let l = c.lay_in.ensures in
    let first = c.load.ensures.2 c.args.lane q (account_of q c.args.lane) refl (knows_of c.args.seat.now.me.0 q c.args.lane d.0.0 (omega arith)) in
    let b₁ : Account g.row.K.Denot g.row.A.Denot = reaching (account_of q c.args.lane).stop (account_of q c.args.lane) in
    let carried : c.lay_in.new.seat.me.1 ≡ (slot q.tail.places c.args.lane b₁.stop, Some c.args.key) ∷ rest c.load.new.seat.me.1 = l.hand ∙ (λ i. (b.4 i, Some c.args.key) ∷ rest c.load.new.seat.me.1) in
    (l.same.0 ∙ c.load.ensures.0 ∙ t.0, omega arith, lays g.R.Keyed.key _ _ c.lay_in.new.seat.me c.args.lane (with_account c.args.lane b₁ q) b₁ c.args.key _ (knows_after c.args.seat.now.me.0 c.lay_in.new.seat.me.0 q c.args.lane b₁ (l.same.2 ∙ first.0) (omega arith)) b.0 refl b.3 carried)

pub returns-clause-same : goal.returns-clause-same
returns-clause-same g c = let t = c.requires.table in let d = c.requires.writer in let b = c.requires.account in let q : WriterView g.row.B.Denot g.row.K.Denot g.row.A.Denot = writer_of c.args.seat.now.me.0 in let all = d.1 in let l = c.lay_in.ensures in
    let first = c.load.ensures.2 c.args.lane q (account_of q c.args.lane) refl (knows_of c.args.seat.now.me.0 q c.args.lane d.0.0 (omega arith)) in
    (c.load-2.ensures.0 ∙ l.same.0 ∙ c.load.ensures.0, c.load-2.ensures.2.0 ∙ ap (λ (l : List (ℕ × Option g.row.K.Denot)). rest l) l.hand ∙ ap (λ (l : List (ℕ × Option g.row.K.Denot)). rest l) first.1 ∙ d.0.1)

pub returns-clause-writer : goal.returns-clause-writer
returns-clause-writer g c = let t = c.requires.table in let d = c.requires.writer in let b = c.requires.account in let q : WriterView g.row.B.Denot g.row.K.Denot g.row.A.Denot = writer_of c.args.seat.now.me.0 in let all = d.1 in let l = c.lay_in.ensures in
    let first = c.load.ensures.2 c.args.lane q (account_of q c.args.lane) refl (knows_of c.args.seat.now.me.0 q c.args.lane d.0.0 (omega arith)) in
    let b₁ : Account g.row.K.Denot g.row.A.Denot = reaching (account_of q c.args.lane).stop (account_of q c.args.lane) in
    twice c.args.seat.now.me.0 c.lay_in.new.seat.me.0 c.load-2.new.seat.me.0 q c.args.lane b₁ (laying c.args.key (account_of q c.args.lane)) (l.same.2 ∙ first.0)
    (c.load-2.ensures.2.1 c.args.lane (with_account c.args.lane b₁ q) b₁ c.args.at c.args.key refl (knows_after c.args.seat.now.me.0 c.lay_in.new.seat.me.0 q c.args.lane b₁ (l.same.2 ∙ first.0) (omega arith)) (l.hand ∙ (λ i. (c.args.at, Some c.args.key) ∷ rest (sym l.hand i))))
