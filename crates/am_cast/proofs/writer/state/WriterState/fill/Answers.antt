use Rattle.std.proofs.lemmas.Bool.{eqb-true}
use Rattle.am_cast.specs.declared.limits.TheConstants.{LANES}
use Rattle.am_cast.specs.Rule.{live}
use Rattle.std.proofs.Common.{arith, ◌≡◌, ◌<◌, ◌+◌, ◌-◌, List, ◌++◌, ◌∷◌, [], ℕ, sym, ap, ◌∙◌, subst}
use Rattle.am_segment.specs.Segments.{KeyView, MayJoin, MayJoinRest, rest_of}
use Rattle.am_cast.specs.inside.WriterStates.{WriterStateView}
use Rattle.am_cast.specs.Changes.{with_account, laying}
use Rattle.am_cast.specs.Seats.{account_of}
use Rattle.am_cast.specs.Keys.{key_of}
use Rattle.am_cast.specs.inside.Tags.{batch_of_tag}
use Rattle.am_cast.specs.inside.KeyRows.{RowView}
use Rattle.am_cast.specs.inside.Waiting.{Gathered, is_live}
use Rattle.am_cast.proofs.Waiting.{gathered_joins, gathered_joins_rest, gathered_rest, not_true}
use Rattle.am_cast.proofs.Filling.{fill_step}
use Rattle.am_cast.proofs.Writers.{idle_not_live}
use Rattle.am_cast.specs.inside.Filling.{FilledTo}
use Rattle.am_cast.proofs.writer.state.WriterState.fill.Given as given
use Rattle.am_cast.proofs.writer.state.WriterState.fill.Goals as goal
use Rattle.am_cast.proofs.writer.state.WriterState.fill.Goals.{then-end-eq-LANES, else-end-eq-LANES}

pub put_key-requires-in-loop-lane-clause-row : goal.put_key-requires-in-loop-lane-clause-row
put_key-requires-in-loop-lane-clause-row g c = grind (arith, gathered_joins)

pub loop-lane-preserved : goal.loop-lane-preserved
loop-lane-preserved g c = let i = c.loop-lane.invariant in let x = batch_of_tag c.args.tag.now in let lane = c.loop-lane.lane in
    let key : c.split_first-key.result.0 ≡ key_of x lane = c.split_first-key.ensures.0 ∙ i.run.1 in let put = c.put_key-in-loop-lane.ensures in
    let step = fill_step x c.args.self.now.known c.loop-lane.self.known c.put_key-in-loop-lane.new.self.known lane c.loop-lane.row.keys c.put_key-in-loop-lane.new.row.keys i.run.0 i.filled i.gathered
    (λ e. let p = put.live e in (ap (λ (v : WriterStateView g.row.T.Denot g.row.P.Denot g.row.A.Denot). v.known) p.0 ∙ ap (λ (k : KeyView g.row.T.Denot). with_account lane (laying k (account_of c.loop-lane.self.known lane)) c.loop-lane.self.known) key, ap (λ (r : RowView g.row.T.Denot). r.keys) p.1))
    (λ ne. let p = put.rest ne in (ap (λ (v : WriterStateView g.row.T.Denot g.row.P.Denot g.row.A.Denot). v.known) p.0, ap (λ (r : RowView g.row.T.Denot). r.keys) p.1 ∙ ap (λ (k : KeyView g.row.T.Denot). c.loop-lane.row.keys ++ k ∷ []) key)) in record {
      filled = step.0;
      rows = put.same.0 ∙ i.rows;
      run = let below = c.loop-lane-test.true in let most = c.used_end-end.ensures.bounds.1 in let few : c.if-end-eq-LANES.dealt < LANES = elim c.if-end-eq-LANES.branch [ then-end-eq-LANES w ↦ omega (arith, w.dealt-is) | else-end-eq-LANES w ↦ omega (arith, w.dealt-is, w.if-end-eq-LANES.false, most) ] in
          (omega (arith, below, few), c.split_first-key.ensures.1 ∙ ap (λ (k : KeyView g.row.T.Denot). record k { number = k.number + 1 }) i.run.1);
      place = put.same.1 ∙ i.place;
      gathered = step.1;
    }

pub add_rest-requires : goal.add_rest-requires
add_rest-requires g c = let i = c.loop-lane.invariant in let x = batch_of_tag c.args.tag.now in let lane = c.loop-lane.lane in
    subst (λ (k : KeyView g.row.T.Denot). MayJoinRest c.loop-lane.row.keys k) (sym i.run.1) (gathered_joins_rest x (λ m. is_live (account_of c.args.self.now.known m)) lane c.loop-lane.row.keys i.gathered i.run.0)

pub put_key-requires-then-end-eq-LANES-2-clause-row : goal.put_key-requires-then-end-eq-LANES-2-clause-row
put_key-requires-then-end-eq-LANES-2-clause-row g c = let i = c.loop-lane.invariant in let x = batch_of_tag c.args.tag.now in let lane = c.loop-lane.lane in let many = i.gathered.many in let small = i.run.0 in
    subst (λ (k : KeyView g.row.T.Denot). MayJoin c.loop-lane.row.keys k) (sym (c.into_last.ensures ∙ i.run.1))
    (gathered_joins x (λ m. is_live (account_of c.args.self.now.known m)) lane lane c.loop-lane.row.keys i.gathered (omega arith) (i.gathered.above lane (omega arith)))

-- the last lane's key, where the last lane is in use
last : (g : given.Over) (c : goal.After-put_key-then-end-eq-LANES-2 g) → let x = batch_of_tag c.args.tag.now in let after = c.put_key-then-end-eq-LANES-2.new in
    FilledTo key_of c.args.self.now.known x LANES after.self.known × Gathered x (λ l. is_live (account_of c.args.self.now.known l)) LANES after.row.keys
last g c = let i = c.loop-lane.invariant in let x = batch_of_tag c.args.tag.now in let put = c.put_key-then-end-eq-LANES-2.ensures in let out = λ (l : ℕ). is_live (account_of c.args.self.now.known l) in
    let all = c.if-end-eq-LANES-2.true in let past = c.loop-lane-test.false in
    let dealt : c.if-end-eq-LANES.dealt ≡ LANES - 1 = elim c.if-end-eq-LANES.branch [ then-end-eq-LANES w ↦ w.dealt-is | else-end-eq-LANES w ↦ absurd (w.if-end-eq-LANES.false all) ] in
    let is : c.loop-lane.lane ≡ LANES - 1 = omega (arith, dealt, past, i.run.0) in let key : c.into_last.result ≡ key_of x (LANES - 1) = c.into_last.ensures ∙ i.run.1 ∙ ap (key_of x) is in
    fill_step x c.args.self.now.known c.loop-lane.self.known c.put_key-then-end-eq-LANES-2.new.self.known (LANES - 1) c.loop-lane.row.keys c.put_key-then-end-eq-LANES-2.new.row.keys (omega arith)
    (subst (λ (n : ℕ). FilledTo key_of c.args.self.now.known x n c.loop-lane.self.known) is i.filled) (subst (λ (n : ℕ). Gathered x out n c.loop-lane.row.keys) is i.gathered)
    (λ e. let p = put.live e in (ap (λ (v : WriterStateView g.row.T.Denot g.row.P.Denot g.row.A.Denot). v.known) p.0 ∙ ap (λ (k : KeyView g.row.T.Denot). with_account (LANES - 1) (laying k (account_of c.loop-lane.self.known (LANES - 1))) c.loop-lane.self.known) key, ap (λ (r : RowView g.row.T.Denot). r.keys) p.1))
    (λ ne. let p = put.rest ne in (ap (λ (v : WriterStateView g.row.T.Denot g.row.P.Denot g.row.A.Denot). v.known) p.0, ap (λ (r : RowView g.row.T.Denot). r.keys) p.1 ∙ ap (λ (k : KeyView g.row.T.Denot). c.loop-lane.row.keys ++ k ∷ []) key))

pub returns-then-end-eq-LANES-2-clause-writer : goal.returns-then-end-eq-LANES-2-clause-writer
returns-then-end-eq-LANES-2-clause-writer g c = (last g c).0

pub returns-then-end-eq-LANES-2-clause-row : goal.returns-then-end-eq-LANES-2-clause-row
returns-then-end-eq-LANES-2-clause-row g c = (c.put_key-then-end-eq-LANES-2.ensures.same.1 ∙ c.loop-lane.invariant.place, (last g c).1)

pub returns-else-end-eq-LANES-2-clause-row : goal.returns-else-end-eq-LANES-2-clause-row
returns-else-end-eq-LANES-2-clause-row g c = let i = c.loop-lane.invariant in let x = batch_of_tag c.args.tag.now in let lane = c.loop-lane.lane in let out = λ (m : ℕ). is_live (account_of c.args.self.now.known m) in
    let past = c.loop-lane-test.false in let short = c.if-end-eq-LANES-2.false in let small = i.run.0 in
    let dealt : c.if-end-eq-LANES.dealt ≡ c.used_end-end.result = elim c.if-end-eq-LANES.branch [ then-end-eq-LANES w ↦ absurd (short w.if-end-eq-LANES.true) | else-end-eq-LANES w ↦ w.dealt-is ] in
    let keys = ap (λ (r : RowView g.row.T.Denot). r.keys) c.add_rest.ensures ∙ ap (λ (k : KeyView g.row.T.Denot). c.loop-lane.row.keys ++ rest_of k) i.run.1 in
    let all : lane + (LANES - lane) ≡ LANES = omega arith in (
      ap (λ (r : RowView g.row.T.Denot). r.place) c.add_rest.ensures ∙ i.place,
      subst (λ (z : ℕ × List (KeyView g.row.T.Denot)). Gathered x out z.0 z.1) (λ j. (all j, sym keys j))
          (gathered_rest x out lane (LANES - lane) c.loop-lane.row.keys i.gathered (λ l low high. not_true (out l) (λ e. idle_not_live (account_of c.args.self.now.known l) (c.used_end-end.ensures.rest l (omega arith) (omega arith)) (eqb-true (account_of c.args.self.now.known l).stand live e)))),
    )
