use Rattle.std.proofs.Common.{arith, ◌≡◌, ◌≤◌, ◌∷◌, List, ℕ, length, drop, sym, ap, ◌∙◌, subst}
use Rattle.am_segment.specs.Segments.{KeyView}
use Rattle.am_cast.specs.declared.limits.TheConstants.{LANES}
use Rattle.am_cast.specs.declared.batch_view.BatchView.{BatchView}
use Rattle.am_cast.specs.declared.views.Tail.{Tail}
use Rattle.am_cast.specs.declared.views.View.{View}
use Rattle.am_cast.specs.declared.views.WriterView.{WriterView}
use Rattle.am_cast.specs.Changes.{both_of, longer_tail}
use Rattle.am_cast.specs.Keys.{key_of}
use Rattle.am_cast.specs.Seats.{account_of}
use Rattle.am_cast.specs.inside.Tags.{batch_of_tag}
use Rattle.am_cast.specs.Writers.{Calm, SameAdmission}
use Rattle.am_cast.specs.inside.Filling.{owner_of}
use Rattle.am_cast.specs.inside.KeyRows.{BucketView, bucket_of}
use Rattle.am_cast.specs.inside.Waiting.{is_live}
use Rattle.am_cast.proofs.Waiting.{gathered_same}
use Rattle.am_cast.proofs.Filling.{filled_live, first_rest}
use Rattle.am_cast.proofs.Writers.{all_laid, filled_ready, calm_longer, longer_same}
use Rattle.am_cast.proofs.writer.state.WriterState.post.Goals as goal

pub store-requires-clause-writer : goal.store-requires-clause-writer
store-requires-clause-writer g c = let r = c.requires.writer in let f = c.fill-row.ensures.writer in let log = ap (λ (t : Tail (BatchView g.row.T.Denot g.row.P.Denot)). length t.log) f.0 in let few = r.1 in
    (ap (λ (t : Tail (BatchView g.row.T.Denot g.row.P.Denot)). t.closed) f.0 ∙ r.0, omega arith, all_laid key_of c.args.self.now.known c.fill-row.new.self.known (batch_of_tag c.tag_batch-tag.result) r.2 f, filled_ready key_of c.args.self.now.known c.fill-row.new.self.known (batch_of_tag c.tag_batch-tag.result) r.2 f)

pub store-requires-clause-row : goal.store-requires-clause-row
store-requires-clause-row g c = let f = c.fill-row.ensures.writer in let r = c.fill-row.ensures.row in let log = ap (λ (t : Tail (BatchView g.row.T.Denot g.row.P.Denot)). length t.log) f.0 in (
  r.0 ∙ sym log,
  gathered_same (batch_of_tag c.tag_batch-tag.result) (λ l. is_live (account_of c.args.self.now.known l)) (λ l. is_live (account_of c.fill-row.new.self.known l)) LANES c.fill-row.result.keys (λ l h. filled_live c.args.self.now.known c.fill-row.new.self.known (batch_of_tag c.tag_batch-tag.result) l h f) r.1,
  subst (λ (z : List (BucketView g.row.T.Denot) × ℕ). 1 ≤ (bucket_of z.0 z.1).room) (λ i. (sym c.fill-row.ensures.rows i, sym r.0 i)) c.requires.row,
)

pub returns-clause-calm : goal.returns-clause-calm
returns-clause-calm g c = let r = c.requires.writer in subst (λ (q : WriterView (BatchView g.row.T.Denot g.row.P.Denot) (KeyView g.row.T.Denot) g.row.A.Denot). Calm q) (sym c.store.ensures.writer)
    (calm_longer key_of c.args.self.now.known c.fill-row.new.self.known (batch_of_tag c.tag_batch-tag.result) r.2 r.3 c.fill-row.ensures.writer)

pub returns-clause-same : goal.returns-clause-same
returns-clause-same g c l small = subst (λ (q : WriterView (BatchView g.row.T.Denot g.row.P.Denot) (KeyView g.row.T.Denot) g.row.A.Denot). SameAdmission (account_of c.args.self.now.known l) (account_of q l) × ((account_of q l).stand ≡ (account_of c.args.self.now.known l).stand) × ((account_of q l).known ≡ (account_of c.args.self.now.known l).known) × ((account_of q l).half ≡ (account_of c.args.self.now.known l).half)) (sym c.store.ensures.writer)
    (longer_same key_of c.args.self.now.known c.fill-row.new.self.known (batch_of_tag c.tag_batch-tag.result) c.fill-row.ensures.writer l small)

pub returns-clause-place : goal.returns-clause-place
returns-clause-place g c = let x : BatchView g.row.T.Denot g.row.P.Denot = batch_of_tag c.tag_batch-tag.result in let f = c.fill-row.ensures.writer in let t = c.store.ensures.to in (
  x,
  c.tag_batch-tag.ensures.post,
  ap (λ (k : KeyView g.row.T.Denot). c.tag_batch-tag.result.first.value ∷ drop 1 k.items) c.tag_batch-tag.ensures.key ∙ first_rest c.next-first.result.0.items c.tag_batch-tag.result.first.value c.tag_batch-tag.ensures.first ∙ ap (λ (k : KeyView g.row.T.Denot). k.items) (c.next-first.ensures.key ∙ c.hand_out.ensures.1),
  ap (λ (q : WriterView (BatchView g.row.T.Denot g.row.P.Denot) (KeyView g.row.T.Denot) g.row.A.Denot). q.tail) c.store.ensures.writer ∙ ap (λ (t : Tail (BatchView g.row.T.Denot g.row.P.Denot)). longer_tail x t) f.0,
  t.0,
  t.1,
  t.2 ∙ ap (λ (n : ℕ). let v : View (BatchView g.row.T.Denot g.row.P.Denot) (KeyView g.row.T.Denot) g.row.A.Denot = both_of c.args.to.now.me.0 (owner_of n x) in v) (ap (λ (t : Tail (BatchView g.row.T.Denot g.row.P.Denot)). length t.log) f.0),
)
