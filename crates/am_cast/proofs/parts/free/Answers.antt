use Rattle.std.proofs.Common.{arith, ◌≡◌, ◌<◌, ◌∙◌, ℕ, List, Bool, false, set, get_or, get_or-set_other, ap, subst, sym, refl}
use lib.ListN.{get_elem?}
use mathlib.Core.Logic.{dite}
use native.Mathlib.Decide.{ℕ_discrete}
use Rattle.std.specs.Slots.{slots_filled}
use Rattle.am_segment.specs.Segments.{KeyView}
use Rattle.am_cast.specs.declared.limits.TheConstants.{LANES}
use Rattle.am_cast.specs.declared.batch_view.BatchView.{BatchView}
use Rattle.am_cast.specs.declared.views.WriterView.{WriterView}
use Rattle.am_cast.specs.Rule.{idle}
use Rattle.am_cast.specs.inside.WriterStates.{WriterStateView}
use Rattle.am_cast.specs.Seats.{account_of, writer_of}
use Rattle.am_cast.specs.Writers.{Calm}
use Rattle.am_cast.specs.Keys.{key_of}
use Rattle.am_cast.proofs.Waiting.{rows_gone}
use Rattle.am_cast.proofs.Ends.{no_keys_left, set_down}
use Rattle.am_cast.proofs.parts.free.Goals as goal

pub end-requires : goal.end-requires
end-requires g c = grind (arith, rows_gone)

pub loop-index-init : goal.loop-index-init
loop-index-init g c = let known : writer_of c.state.inside.seat.me.0 ≡ c.writer.inside.state.known = ap (λ (v : WriterStateView g.row.T.Denot g.row.P.Denot g.row.A.Denot). v.known) c.state.view_is in
    let idles = subst (λ (q : WriterView (BatchView g.row.T.Denot g.row.P.Denot) (KeyView g.row.T.Denot) g.row.A.Denot). (l : ℕ) → l < LANES → (account_of q l).stand ≡ idle) (sym c.writer.view_is) c.requires in
    let calm = subst (λ (q : WriterView (BatchView g.row.T.Denot g.row.P.Denot) (KeyView g.row.T.Denot) g.row.A.Denot). Calm q × ((l : ℕ) → l < LANES → (account_of q l).stand ≡ idle)) (sym known) (c.writer.invariant, idles) in let v = c.close_with-closed.ensures.values in record {
      len = refl;
      filled = v.1;
      emptied = λ k h. absurd (omega arith);
      none = no_keys_left key_of (writer_of c.state.inside.seat.me.0) _ c.state.inside.seat.me.0 _ _ c.state.invariant.0.writer.0 calm.0 calm.1 v.2;
    }

pub loop-index-preserved : goal.loop-index-preserved
loop-index-preserved g c = let i = c.loop-index.invariant in let o = c.take.ensures.others in let at = c.loop-index.index in let was = slots_filled c.loop-index.closed.slots in record {
  len = o.2 ∙ i.len;
  filled = λ k low high. ap (λ (fs : List Bool). get_or fs k false) o.1 ∙ get_or-set_other was at k false false (λ e. omega arith) ∙ i.filled k (omega arith) (omega arith);
  emptied = λ k small. ap (λ (fs : List Bool). get_or fs k false) o.1 ∙ dite (ℕ_discrete k at)
      (λ (e : k ≡ at). ap (λ (m : ℕ). get_or (set was at false) m false) e ∙ set_down was at)
      (λ ne. get_or-set_other was at k false false ne ∙ i.emptied k (omega arith));
  none = λ k y e. i.none k y (ap (λ xs. get_elem? xs k) (sym o.0) ∙ e);
}
