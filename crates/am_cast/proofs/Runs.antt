-- Steps from a new table are a run of the core from its first state.
use Rattle.std.proofs.Common.{ℕ, List, [], ◌++◌, sym, subst, arith}
use Rattle.am_steps.specs.declared.event.Event as event
use Rattle.am_steps.specs.States.{Core, first_state}
use Rattle.am_steps.specs.Runs.{LeadsTo}
use Rattle.am_steps.specs.Runs as runs
use Rattle.am_cast.specs.declared.limits.TheConstants.{LANES}
use Rattle.am_cast.specs.Runs.{RunsOfTheCore}
use Rattle.am_cast.specs.Runs as comes

module _ {X : Type 0} where
  then_also : (c d f : Core X) (es fs : List (event.Event X)) → LeadsTo c es d → LeadsTo d fs f → LeadsTo c (es ++ fs) f
  then_also _ _ f _ fs (runs.none c) more = more
  then_also _ _ f _ fs (runs.then c d g e es one rest) more = runs.then c d f e (es ++ fs) one (then_also d g f es fs rest more)

  then_none : (c d f : Core X) (es : List (event.Event X)) → LeadsTo c es d → LeadsTo d [] f → LeadsTo c es f
  then_none c _ _ es run (runs.none d) = run

module _ (B K A : Type 0) (key : B → ℕ → K) where
  pub runs_as : RunsOfTheCore B K A key
  runs_as places posters seat_of _ _ _ (comes.begins words slots r first) = subst (LeadsTo (first_state places LANES posters) []) (sym first) (runs.none (first_state places LANES posters))
  runs_as places posters seat_of _ _ _ (comes.steps es s r so_far slots id me i f found allowed deep at fits) = grind (arith, then_also, (runs_as places posters seat_of es s r so_far))
  runs_as places posters seat_of _ _ _ (comes.notes es s r so_far slots id me allowed deep at fits p small seat only) = grind (arith, then_also, (runs_as places posters seat_of es s r so_far))
  runs_as places posters seat_of _ _ _ (comes.hears es s r so_far slots id me allowed deep at fits other) = grind (arith, then_none, (runs_as places posters seat_of es s r so_far))
  runs_as places posters seat_of _ _ _ (comes.seats es s r so_far views stays) = grind (arith, then_none, (runs_as places posters seat_of es s r so_far))
