use Rattle.std.proofs.Common.{arith, ◌≡◌, ◌∙◌, ℕ, List, Bool, false, set, get_or, get_or-set_other, ap, refl}
use mathlib.Core.Logic.{dite}
use native.Mathlib.Decide.{ℕ_discrete}
use Rattle.std.specs.Slots.{slots_filled}
use Rattle.am_cast.proofs.Ends.{set_down}
use Rattle.am_cast.proofs.cursor.Cast.leak.Goals as goal

pub loop-index-init : goal.loop-index-init
loop-index-init g c = let v = c.close-closed.ensures.values in record {
  len = refl;
  filled = v.1;
  emptied = λ k h. absurd (omega arith);
}

pub loop-index-preserved : goal.loop-index-preserved
loop-index-preserved g c = let i = c.loop-index.invariant in let o = c.take.ensures.others in let at = c.loop-index.index in let was = slots_filled c.loop-index.closed.slots in record {
  len = o.2 ∙ i.len;
  filled = λ k low high. ap (λ (fs : List Bool). get_or fs k false) o.1 ∙ get_or-set_other was at k false false (λ e. omega arith) ∙ i.filled k (omega arith) (omega arith);
  emptied = λ k small. ap (λ (fs : List Bool). get_or fs k false) o.1 ∙ dite (ℕ_discrete k at)
      (λ (e : k ≡ at). ap (λ (m : ℕ). get_or (set was at false) m false) e ∙ set_down was at)
      (λ ne. get_or-set_other was at k false false ne ∙ i.emptied k (omega arith));
}
