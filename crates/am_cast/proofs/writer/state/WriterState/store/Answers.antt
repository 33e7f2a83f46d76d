use Rattle.std.proofs.Common.{arith, ◌≡◌, ◌<◌, ◌++◌, ◌∷◌, [], ℕ, length, refl, sym, ap, ◌∙◌, subst, List, Some}
use Rattle.am_segment.specs.Segments.{KeyView}
use Rattle.am_cast.specs.declared.limits.TheConstants.{LANES, LONGEST_LOG}
use Rattle.am_cast.specs.declared.batch_view.BatchView.{BatchView}
use Rattle.am_cast.specs.declared.views.Own.{Own}
use Rattle.am_cast.specs.declared.views.View.{View}
use Rattle.am_cast.specs.declared.views.WriterView.{WriterView}
use Rattle.am_cast.specs.inside.WriterStates.{WriterStateView}
use Rattle.am_cast.specs.Rule.{blank}
use Rattle.am_cast.proofs.Writers.{state_longer}
use Rattle.am_cast.specs.Changes.{longer, both_of, only_own, without_own, own_at}
use Rattle.am_cast.specs.Keys.{key_of}
use Rattle.am_cast.specs.Seats.{account_of, writer_of}
use Rattle.am_cast.specs.inside.RingPlaces.{RingPlaceView}
use Rattle.am_cast.specs.inside.Tags.{batch_of_tag}
use Rattle.am_cast.specs.inside.Filling.{AllLaid, AreReady}
use Rattle.am_cast.specs.inside.KeyRows.{BucketView}
use Rattle.am_cast.specs.inside.Waiting.{Gathered, RowsFit, is_live}
use Rattle.std.proofs.lemmas.Bool.{eqb-true}
use Rattle.am_cast.proofs.Waiting.{gathered_all}
use Rattle.am_cast.proofs.Filling.{no_row_yet, fits_row, fits_ended}
use Rattle.am_cast.proofs.writer.state.WriterState.store.Goals as goal

pub publish_batch-requires-clause-laid : goal.publish_batch-requires-clause-laid
publish_batch-requires-clause-laid g c = (batch_of_tag c.args.tag.now, refl, subst (λ (q : WriterView (BatchView g.row.T.Denot g.row.P.Denot) (KeyView g.row.T.Denot) g.row.A.Denot). AllLaid key_of q (batch_of_tag c.args.tag.now)) (sym (ap (λ (v : WriterStateView g.row.T.Denot g.row.P.Denot g.row.A.Denot). v.known) c.self.view_is)) c.requires.writer.2)

pub end_row-requires : goal.end_row-requires
end_row-requires g c = gathered_all (batch_of_tag c.args.tag.now) (λ l. is_live (account_of c.args.self.now.known l)) c.args.row.keys c.requires.row.1 (eqb-true (length c.args.row.keys) LANES (sym c.is_full.ensures ∙ c.if-is_full.true))

pub invariant_of-self : goal.invariant_of-self
invariant_of-self g c = let p = c.publish_batch.ensures in let h = c.hand_own.ensures.from in let i = c.self.invariant.0 in let few = subst (λ (q : WriterView (BatchView g.row.T.Denot g.row.P.Denot) (KeyView g.row.T.Denot) g.row.A.Denot). length q.tail.log < LONGEST_LOG) (sym (ap (λ (v : WriterStateView g.row.T.Denot g.row.P.Denot g.row.A.Denot). v.known) c.self.view_is)) c.requires.writer.1 in let count = i.count_is in (
  state_longer g.N.Feed.table c.self.inside.seat.table_id c.hand_own.new.from.table_id c.self.inside.seat.me c.hand_own.new.from.me c.self.inside.next c.go_on.new.self c.self.inside.closed c.self.inside.lanes (batch_of_tag c.args.tag.now) c.publish_batch.new.seat.me.0
      i (h.0 ∙ p.same.0) (h.1 ∙ p.same.1) (p.writer (batch_of_tag c.args.tag.now) refl ∙ ap (λ (own : List (Own (BatchView g.row.T.Denot g.row.P.Denot))). let v : View (BatchView g.row.T.Denot g.row.P.Denot) (KeyView g.row.T.Denot) g.row.A.Denot = record c.self.inside.seat.me.0 { writer = Some (longer (batch_of_tag c.args.tag.now) (writer_of c.self.inside.seat.me.0)); own = own } in v) (sym (ap (λ (w : View (BatchView g.row.T.Denot g.row.P.Denot) (KeyView g.row.T.Denot) g.row.A.Denot). w.own) (p.writer (batch_of_tag c.args.tag.now) refl)))) h.2 (omega arith) c.go_on.ensures,
  let x : BatchView g.row.T.Denot g.row.P.Denot = batch_of_tag c.args.tag.now in let r = subst (λ (q : WriterView (BatchView g.row.T.Denot g.row.P.Denot) (KeyView g.row.T.Denot) g.row.A.Denot). (c.args.row.place ≡ length q.tail.log) × Gathered x (λ l. is_live (account_of q l)) LANES c.args.row.keys × AreReady q) (sym (ap (λ (v : WriterStateView g.row.T.Denot g.row.P.Denot g.row.A.Denot). v.known) c.self.view_is)) (c.requires.row.0, c.requires.row.1, c.requires.writer.3) in let grown : writer_of c.hand_own.new.from.me.0 ≡ longer x (writer_of c.self.inside.seat.me.0) = ap (λ (w : View (BatchView g.row.T.Denot g.row.P.Denot) (KeyView g.row.T.Denot) g.row.A.Denot). writer_of w) (c.hand_own.ensures.from.2 ∙ ap (λ (w : View (BatchView g.row.T.Denot g.row.P.Denot) (KeyView g.row.T.Denot) g.row.A.Denot). without_own w) (c.publish_batch.ensures.writer x refl)) in
      subst (λ (rows : List (BucketView g.row.T.Denot)). RowsFit (writer_of c.hand_own.new.from.me.0) rows) (sym c.end_row.ensures) (fits_ended x (writer_of c.self.inside.seat.me.0) (writer_of c.hand_own.new.from.me.0) c.self.inside.rows c.args.row.place c.args.row.keys grown r.0 r.2 c.self.invariant.1 r.1 (sym c.is_full.ensures ∙ c.if-is_full.true)),
  ap (λ (rows : List (BucketView g.row.T.Denot)). length rows) c.end_row.ensures ∙ c.self.invariant.2 ∙ sym (ap (λ (r : RingPlaceView). r.places) c.go_on.ensures),
)

pub insert-requires-clause-none : goal.insert-requires-clause-none
insert-requires-clause-none g c = let x : BatchView g.row.T.Denot g.row.P.Denot = batch_of_tag c.args.tag.now in let r = subst (λ (q : WriterView (BatchView g.row.T.Denot g.row.P.Denot) (KeyView g.row.T.Denot) g.row.A.Denot). (c.args.row.place ≡ length q.tail.log) × Gathered x (λ l. is_live (account_of q l)) LANES c.args.row.keys × AreReady q) (sym (ap (λ (v : WriterStateView g.row.T.Denot g.row.P.Denot g.row.A.Denot). v.known) c.self.view_is)) (c.requires.row.0, c.requires.row.1, c.requires.writer.3) in no_row_yet x (writer_of c.self.inside.seat.me.0) c.self.inside.rows c.args.row.place r.0 c.self.invariant.1

pub invariant_of-self-else-is_full : goal.invariant_of-self-else-is_full
invariant_of-self-else-is_full g c = let p = c.publish_batch.ensures in let h = c.hand_own.ensures.from in let i = c.self.invariant.0 in let few = subst (λ (q : WriterView (BatchView g.row.T.Denot g.row.P.Denot) (KeyView g.row.T.Denot) g.row.A.Denot). length q.tail.log < LONGEST_LOG) (sym (ap (λ (v : WriterStateView g.row.T.Denot g.row.P.Denot g.row.A.Denot). v.known) c.self.view_is)) c.requires.writer.1 in let count = i.count_is in (
  state_longer g.N.Feed.table c.self.inside.seat.table_id c.hand_own.new.from.table_id c.self.inside.seat.me c.hand_own.new.from.me c.self.inside.next c.go_on.new.self c.self.inside.closed c.self.inside.lanes (batch_of_tag c.args.tag.now) c.publish_batch.new.seat.me.0
      i (h.0 ∙ p.same.0) (h.1 ∙ p.same.1) (p.writer (batch_of_tag c.args.tag.now) refl ∙ ap (λ (own : List (Own (BatchView g.row.T.Denot g.row.P.Denot))). let v : View (BatchView g.row.T.Denot g.row.P.Denot) (KeyView g.row.T.Denot) g.row.A.Denot = record c.self.inside.seat.me.0 { writer = Some (longer (batch_of_tag c.args.tag.now) (writer_of c.self.inside.seat.me.0)); own = own } in v) (sym (ap (λ (w : View (BatchView g.row.T.Denot g.row.P.Denot) (KeyView g.row.T.Denot) g.row.A.Denot). w.own) (p.writer (batch_of_tag c.args.tag.now) refl)))) h.2 (omega arith) c.go_on.ensures,
  let x : BatchView g.row.T.Denot g.row.P.Denot = batch_of_tag c.args.tag.now in let r = subst (λ (q : WriterView (BatchView g.row.T.Denot g.row.P.Denot) (KeyView g.row.T.Denot) g.row.A.Denot). (c.args.row.place ≡ length q.tail.log) × Gathered x (λ l. is_live (account_of q l)) LANES c.args.row.keys × AreReady q) (sym (ap (λ (v : WriterStateView g.row.T.Denot g.row.P.Denot g.row.A.Denot). v.known) c.self.view_is)) (c.requires.row.0, c.requires.row.1, c.requires.writer.3) in let grown : writer_of c.hand_own.new.from.me.0 ≡ longer x (writer_of c.self.inside.seat.me.0) = ap (λ (w : View (BatchView g.row.T.Denot g.row.P.Denot) (KeyView g.row.T.Denot) g.row.A.Denot). writer_of w) (c.hand_own.ensures.from.2 ∙ ap (λ (w : View (BatchView g.row.T.Denot g.row.P.Denot) (KeyView g.row.T.Denot) g.row.A.Denot). without_own w) (c.publish_batch.ensures.writer x refl)) in
      fits_row x (writer_of c.self.inside.seat.me.0) (writer_of c.hand_own.new.from.me.0) c.self.inside.rows c.insert.new.self c.args.row.place c.args.row.keys grown r.0 r.2 c.self.invariant.1 r.1 (sym c.is_full.ensures ∙ c.if-is_full.false) c.insert.ensures.here c.insert.ensures.others,
  c.insert.ensures.count ∙ c.self.invariant.2 ∙ sym (ap (λ (r : RingPlaceView). r.places) c.go_on.ensures),
)

pub returns-then-is_full-clause-to : goal.returns-then-is_full-clause-to
returns-then-is_full-clause-to g c = let x : BatchView g.row.T.Denot g.row.P.Denot = batch_of_tag c.args.tag.now in let h = c.hand_own.ensures.to in let log = ap (λ (q : WriterView (BatchView g.row.T.Denot g.row.P.Denot) (KeyView g.row.T.Denot) g.row.A.Denot). length q.tail.log) (ap (λ (v : WriterStateView g.row.T.Denot g.row.P.Denot g.row.A.Denot). v.known) c.self.view_is) in
    (h.0, h.1, h.2 ∙ ap (λ (w : View (BatchView g.row.T.Denot g.row.P.Denot) (KeyView g.row.T.Denot) g.row.A.Denot). both_of c.args.to.now.me.0 (only_own w)) (c.publish_batch.ensures.writer x refl) ∙ ap (λ (own : List (Own (BatchView g.row.T.Denot g.row.P.Denot))). let v : View (BatchView g.row.T.Denot g.row.P.Denot) (KeyView g.row.T.Denot) g.row.A.Denot = both_of c.args.to.now.me.0 (record blank { own = own ++ own_at (length (writer_of c.self.inside.seat.me.0).tail.log) x ∷ [] }) in v) c.self.invariant.0.no_own ∙ ap (λ (n : ℕ). let v : View (BatchView g.row.T.Denot g.row.P.Denot) (KeyView g.row.T.Denot) g.row.A.Denot = both_of c.args.to.now.me.0 (record blank { own = own_at n x ∷ [] }) in v) log)

pub returns-else-is_full-clause-to : goal.returns-else-is_full-clause-to
returns-else-is_full-clause-to g c = let x : BatchView g.row.T.Denot g.row.P.Denot = batch_of_tag c.args.tag.now in let h = c.hand_own.ensures.to in let log = ap (λ (q : WriterView (BatchView g.row.T.Denot g.row.P.Denot) (KeyView g.row.T.Denot) g.row.A.Denot). length q.tail.log) (ap (λ (v : WriterStateView g.row.T.Denot g.row.P.Denot g.row.A.Denot). v.known) c.self.view_is) in
    (h.0, h.1, h.2 ∙ ap (λ (w : View (BatchView g.row.T.Denot g.row.P.Denot) (KeyView g.row.T.Denot) g.row.A.Denot). both_of c.args.to.now.me.0 (only_own w)) (c.publish_batch.ensures.writer x refl) ∙ ap (λ (own : List (Own (BatchView g.row.T.Denot g.row.P.Denot))). let v : View (BatchView g.row.T.Denot g.row.P.Denot) (KeyView g.row.T.Denot) g.row.A.Denot = both_of c.args.to.now.me.0 (record blank { own = own ++ own_at (length (writer_of c.self.inside.seat.me.0).tail.log) x ∷ [] }) in v) c.self.invariant.0.no_own ∙ ap (λ (n : ℕ). let v : View (BatchView g.row.T.Denot g.row.P.Denot) (KeyView g.row.T.Denot) g.row.A.Denot = both_of c.args.to.now.me.0 (record blank { own = own_at n x ∷ [] }) in v) log)
