use Rattle.std.proofs.Common.{arith, ◌≡◌, ℕ, List, ◌∷◌, Option, Some, None, refl, sym, ap, ◌∙◌}
use Rattle.atomic_table.specs.Table.{rest}
use Rattle.am_cast.specs.declared.views.Account.{Account}
use Rattle.am_cast.specs.declared.views.WriterView.{WriterView}
use Rattle.am_cast.specs.Rule.{slot}
use Rattle.am_cast.specs.Changes.{with_writer, with_account, reaching, clearing}
use Rattle.am_cast.specs.Seats.{writer_of, account_of}
use Rattle.am_cast.proofs.Slots.{at_below, head_key}
use Rattle.am_cast.proofs.Accounts.{knows_of, knows_after, twice}
use Rattle.am_cast.proofs.steps.Gather.{gathers}
use Rattle.am_cast.proofs.steps.Clear.{clears}
use Rattle.am_cast.proofs.board.clear.clear_slot.Goals as goal

pub load-requires : goal.load-requires
load-requires g c = let t = c.requires.table in let d = c.requires.writer in let b = c.requires.account in let q : WriterView g.row.B.Denot g.row.K.Denot g.row.A.Denot = writer_of c.args.seat.now.me.0 in let all = d.1 in
    (t.0, omega arith, gathers g.R.Keyed.key _ _ c.args.seat.now.me c.args.lane q (account_of q c.args.lane) (knows_of c.args.seat.now.me.0 q c.args.lane d.0.0 (omega arith)) b.0 b.1.0 b.1.1)

pub take_out-key-requires-clause-full : goal.take_out-key-requires-clause-full
take_out-key-requires-clause-full g c = let t = c.requires.table in let d = c.requires.writer in let b = c.requires.account in let q : WriterView g.row.B.Denot g.row.K.Denot g.row.A.Denot = writer_of c.args.seat.now.me.0 in let all = d.1 in
    let x = at_below q.tail.log (account_of q c.args.lane).cleared b.2 in
    let e = (c.load.ensures.2 c.args.lane q (account_of q c.args.lane) x.0 refl (knows_of c.args.seat.now.me.0 q c.args.lane d.0.0 (omega arith)) x.1).1 in
    let key : g.row.K.Denot = g.R.Keyed.key x.0 c.args.lane in
    let is : c.load.new.seat.me.1 ≡ (c.args.at, Some key) ∷ c.args.seat.now.me.1 = e ∙ (λ i. (sym b.3 i, Some key) ∷ c.args.seat.now.me.1) in
    (key, is ∙ ap (λ (l : List (ℕ × Option g.row.K.Denot)). (c.args.at, Some key) ∷ rest l) (sym is))

pub load-requires-2 : goal.load-requires-2
load-requires-2 g c = let t = c.requires.table in let d = c.requires.writer in let b = c.requires.account in let q : WriterView g.row.B.Denot g.row.K.Denot g.row.A.Denot = writer_of c.args.seat.now.me.0 in let all = d.1 in
    let x = at_below q.tail.log (account_of q c.args.lane).cleared b.2 in
    let e = c.load.ensures.2 c.args.lane q (account_of q c.args.lane) x.0 refl (knows_of c.args.seat.now.me.0 q c.args.lane d.0.0 (omega arith)) x.1 in
    let b₁ : Account g.row.K.Denot g.row.A.Denot = reaching (account_of q c.args.lane).cleared (account_of q c.args.lane) in
    let is : c.take_out-key.new.seat.me.0 ≡ with_writer (with_account c.args.lane b₁ q) c.args.seat.now.me.0 = c.take_out-key.ensures.same.2 ∙ e.0 in
    let carried : c.take_out-key.new.seat.me.1 ≡ (slot q.tail.places c.args.lane b₁.cleared, None) ∷ rest c.load.new.seat.me.1 = c.take_out-key.ensures.hand ∙ (λ i. (b.3 i, None) ∷ rest c.load.new.seat.me.1) in
    (c.take_out-key.ensures.same.0 ∙ c.load.ensures.0 ∙ t.0, omega arith, clears g.R.Keyed.key _ _ c.take_out-key.new.seat.me c.args.lane (with_account c.args.lane b₁ q) b₁ _ (knows_after c.args.seat.now.me.0 c.take_out-key.new.seat.me.0 q c.args.lane b₁ is (omega arith)) refl b.1.0 b.1.1 carried)

pub returns-clause-same : goal.returns-clause-same
returns-clause-same g c = let t = c.requires.table in let d = c.requires.writer in let b = c.requires.account in let q : WriterView g.row.B.Denot g.row.K.Denot g.row.A.Denot = writer_of c.args.seat.now.me.0 in let all = d.1 in
    let x = at_below q.tail.log (account_of q c.args.lane).cleared b.2 in
    let e = (c.load.ensures.2 c.args.lane q (account_of q c.args.lane) x.0 refl (knows_of c.args.seat.now.me.0 q c.args.lane d.0.0 (omega arith)) x.1).1 in
    (c.load-2.ensures.0 ∙ c.take_out-key.ensures.same.0 ∙ c.load.ensures.0, c.load-2.ensures.2.0 ∙ ap (λ (l : List (ℕ × Option g.row.K.Denot)). rest l) c.take_out-key.ensures.hand ∙ ap (λ (l : List (ℕ × Option g.row.K.Denot)). rest l) e ∙ d.0.1)

pub returns-clause-writer : goal.returns-clause-writer
returns-clause-writer g c = let t = c.requires.table in let d = c.requires.writer in let b = c.requires.account in let q : WriterView g.row.B.Denot g.row.K.Denot g.row.A.Denot = writer_of c.args.seat.now.me.0 in let all = d.1 in
    let x = at_below q.tail.log (account_of q c.args.lane).cleared b.2 in
    let e = c.load.ensures.2 c.args.lane q (account_of q c.args.lane) x.0 refl (knows_of c.args.seat.now.me.0 q c.args.lane d.0.0 (omega arith)) x.1 in
    let b₁ : Account g.row.K.Denot g.row.A.Denot = reaching (account_of q c.args.lane).cleared (account_of q c.args.lane) in
    let is : c.take_out-key.new.seat.me.0 ≡ with_writer (with_account c.args.lane b₁ q) c.args.seat.now.me.0 = c.take_out-key.ensures.same.2 ∙ e.0 in
    twice c.args.seat.now.me.0 c.take_out-key.new.seat.me.0 c.load-2.new.seat.me.0 q c.args.lane b₁ (clearing (account_of q c.args.lane)) is
    (c.load-2.ensures.2.1 c.args.lane (with_account c.args.lane b₁ q) b₁ refl (knows_after c.args.seat.now.me.0 c.take_out-key.new.seat.me.0 q c.args.lane b₁ is (omega arith)))

pub returns-clause-key : goal.returns-clause-key
returns-clause-key g c = let t = c.requires.table in let d = c.requires.writer in let b = c.requires.account in let q : WriterView g.row.B.Denot g.row.K.Denot g.row.A.Denot = writer_of c.args.seat.now.me.0 in let all = d.1 in
    let x = at_below q.tail.log (account_of q c.args.lane).cleared b.2 in
    let e = (c.load.ensures.2 c.args.lane q (account_of q c.args.lane) x.0 refl (knows_of c.args.seat.now.me.0 q c.args.lane d.0.0 (omega arith)) x.1).1 in
    let is : Some c.take_out-key.result ≡ Some (g.R.Keyed.key x.0 c.args.lane) = ap (λ (l : List (ℕ × Option g.row.K.Denot)). head_key l) (sym c.take_out-key.ensures.key ∙ e) in
    (x.0, x.1, Rattle.am_cast.proofs.Kept.same_some c.take_out-key.result (g.R.Keyed.key x.0 c.args.lane) _ refl is)
