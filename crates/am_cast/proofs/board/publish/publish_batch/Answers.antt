use Rattle.std.proofs.Common.{arith, ◌≡◌, Some, sym, subst}
use Rattle.am_cast.specs.declared.views.Account.{Account}
use Rattle.am_cast.specs.declared.views.WriterView.{WriterView}
use Rattle.am_cast.specs.Seats.{writer_of}
use Rattle.am_cast.proofs.Accounts.{is_account_of}
use Rattle.am_cast.proofs.steps.Publish.{publishes_chosen}
use Rattle.am_cast.proofs.board.publish.publish_batch.Goals as goal

pub store-requires : goal.store-requires
store-requires g c = let t = c.requires.table in let d = c.requires.writer in let q : WriterView g.row.B.Denot g.row.K.Denot g.row.A.Denot = writer_of c.args.seat.now.me.0 in let n = d.2 in let few = t.2 in let x = c.requires.laid.0 in (
  t.0,
  omega arith,
  publishes_chosen g.R.Keyed.key g.X.NewBatch.batch x _ _ c.args.seat.now.me q _ c.requires.laid.1 d.0.0 d.1 (omega arith)
      (λ l b e. subst (λ (b : Account g.row.K.Denot g.row.A.Denot). (b.out ≡ 0) × (b.stand ≡ 1 → b.laid ≡ Some (g.R.Keyed.key x l))) (sym (is_account_of q l b e)) (c.requires.laid.2 l (Rattle.am_cast.proofs.Slots.at_length q.accounts l b e))) (omega arith),
)
