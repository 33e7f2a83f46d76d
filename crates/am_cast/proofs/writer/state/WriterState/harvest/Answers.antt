use Rattle.std.proofs.Common.{le_refl, true≢false, ◌≤◌, arith, refl, sym, ◌<◌, ◌+◌, ◌/◌, ℕ, Option, subst, length}
use Rattle.am_cast.specs.declared.limits.TheConstants.{LANES}
use Rattle.am_cast.proofs.Writers.{harvest_step, still_room, more_room, Lowest, none_lowest, none_more, lowest_stays}
use Rattle.am_cast.proofs.writer.state.WriterState.harvest.Goals as goal
use Rattle.am_cast.proofs.writer.state.WriterState.harvest.Goals.{then-is_none+then-word+then-is_full_ring, else-is_none, else-is_none-via-then-is_none+then-word+else-is_full_ring, else-is_none-via-then-is_none+else-word, else-is_none-via-else-is_none}

pub loop-lane-preserved : goal.loop-lane-preserved
loop-lane-preserved g c = let i = c.loop-lane.invariant in let lane = c.loop-lane.lane in let q = c.loop-lane.self.known in let q' = c.harvest_lane-word.new.self.known in let here = c.harvest_lane-word.ensures in
    let below = c.loop-lane-test.true in let bounds = c.used_end-lane-end.ensures.bounds in let small : lane < LANES = omega (arith, below, bounds.1) in let others = here.only.3 in let tail = here.only.0 in
    let step = harvest_step q q' lane tail others c.args.self.now.known small i.calm i.same here.only.1 here.calm here.account in record {
      calm = step.0;
      same = step.1;
      full = elim c.if-is_none.branch [
        | then-is_none+then-word+then-is_full_ring w ↦ (let room = none_lowest q q' lane tail others c.loop-lane.full w.if-is_none.ensures i.full in let is = here.word.1 w.if-word.true in let full = w.if-is_full_ring.ensures.0 refl in
            let most = ((step.0.1 lane small).live_is is.0).2 in subst (λ (o : Option ℕ). Lowest q q' lane tail others q' (lane + 1) o) (sym w.full-is)
            (omega arith, (is.0, omega (arith, is.1, full, most)), still_room q q' lane tail others lane (le_refl lane) room))
        | else-is_none w ↦ subst (λ (o : Option ℕ). Lowest q q' lane tail others q' (lane + 1) o) (sym w.full-is) (elim w.else-is_none.branch [
          | else-is_none-via-then-is_none+then-word+else-is_full_ring w' ↦ (let room = none_lowest q q' lane tail others c.loop-lane.full w'.if-is_none.ensures i.full in let is = here.word.1 w'.if-word.true in let short : c.harvest_lane-word.result / 4 + q'.tail.places ≤ length q'.tail.log → ⊥ = λ h. true≢false (sym (w'.if-is_full_ring.ensures.1 h)) in
              none_more q q' lane tail others c.loop-lane.full w'.if-is_none.ensures (more_room q q' lane tail others room (λ alive. omega (arith, is.1, short))))
          | else-is_none-via-then-is_none+else-word w' ↦ (let room = none_lowest q q' lane tail others c.loop-lane.full w'.if-is_none.ensures i.full in
              none_more q q' lane tail others c.loop-lane.full w'.if-is_none.ensures (more_room q q' lane tail others room (λ alive. absurd (here.word.0 w'.if-word.false alive))))
          | else-is_none-via-else-is_none w' ↦ lowest_stays q q' lane tail others c.loop-lane.full w'.if-is_none.ensures i.full
        ])
      ];
    }
