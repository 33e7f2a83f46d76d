use Rattle.std.proofs.Common.{◌≡◌, ◌+◌, ℕ, [], length, ◌∷◌, ◌++◌, List, true, false, refl, sym, ap, subst, ◌∙◌, append-nil, append_assoc, length-append, arith, rules}
use Rattle.std.proofs.lemmas.Grind.{common_steps}
use Rattle.std.specs.Arc.{arc_value}
use Rattle.std.specs.Vec.Iter.{into_iter_items, into_iter_len}
use Rattle.std.proofs.lemmas.List.{nil_from_length}
use denote.Param.Always.{mut_next}
use Rattle.am_alert.specs.declared.alert.Alert.{Alert}
use Rattle.am_alert.specs.Merging.{absorbed}
use Rattle.am_store.specs.AlertList.{lookup, with_alert, absorb_into}
use Rattle.am_store.specs.AlertMaps.{stored_in, all_taken_back, AreKeptByLabels}
use Rattle.am_store.specs.Judging.{AreJudged}
use Rattle.am_store.proofs.Entries.{all_back_last}
use Rattle.am_store.proofs.Judging.{asked_some, judged_all, judged_more, judges_of, on_err}
use Rattle.am_store.proofs.store.judge.judge_over.Goals as goal

pub loop-new-preserved-then-keeps : goal.loop-new-preserved-then-keeps
loop-new-preserved-then-keeps g c =
    let filter = g.F.FnMut in
    let so_far = c.loop-new.invariant in
    let now = c.args.now in
    let new = c.in-Some.new in
    let olds = stored_in c.loop-new.alerts.entries in
    let i = length c.loop-new.accepted.items + length c.loop-new.refused.items in
    let report : arc_value c.in_ok-became.became ≡ new = search rules in
    let became : arc_value c.absorb_one.new.block ≡ absorbed now (lookup new.labels olds) new = c.in_ok-change.ensures.became ∙ ap (λ (a : Alert). absorbed now (lookup a.labels olds) a) report in
    let judges = judges_of filter c.loop-new.accepts c.accepts-keeps.new.self c.deref.result _ c.is_first-first.result _ c.accepts-keeps.result true (c.deref.ensures ∙ became) c.is_first-first.ensures c.if-keeps.true c.accepts-keeps.ensures in
    let items : into_iter_items c.loop-new.new-iterator ≡ new ∷ into_iter_items c.next.new.self = search rules in
    let left : into_iter_len c.next.new.self ≡ length (into_iter_items c.next.new.self) = search rules in
    let fewer : into_iter_len c.loop-new.new-iterator ≡ into_iter_len c.next.new.self + 1 = omega (arith, ap length items, so_far.left, left) in
    let done = so_far.judged.0 in
    let one_done : (done ++ new ∷ []) ++ into_iter_items c.next.new.self ≡ c.args.news = append_assoc done (new ∷ []) (into_iter_items c.next.new.self) ∙ (ap (λ rest. done ++ rest) (sym items) ∙ so_far.judged.1) in
    let change = c.in_ok-change.change in
    let entries = c.absorb_one.new.alerts.entries in
    let stored : stored_in entries ≡ absorb_into now new olds = c.in_ok-change.ensures.stored ∙ ap (λ a. with_alert a olds) became in
    let pushed : c.push_reserved.new.self.items ≡ c.loop-new.accepted.items ++ new ∷ [] = c.push_reserved.ensures.items in
    let longer : length c.push_reserved.new.self.items ≡ length c.loop-new.accepted.items + 1 = omega (arith, ap length pushed, length-append c.loop-new.accepted.items (new ∷ [])) in
    let changes : c.push_reserved-then-keeps.new.self.items ≡ c.loop-new.changes.items ++ change ∷ [] = c.push_reserved-then-keeps.ensures.items in
    record {
      callable = mut_next filter _ _ _ _ _ c.accepts-keeps.ensures refl so_far.callable;
      judged = (
        done ++ new ∷ [],
        one_done,
        λ last news others rest h.
            subst (λ (front : List Alert). AreJudged filter now last c.args.accepts.now 0 (stored_in c.args.alerts.now.entries) ((done ++ new ∷ []) ++ news) front (c.loop-new.refused.items ++ rest))
            (sym (ap (λ front. front ++ others) pushed ∙ append_assoc c.loop-new.accepted.items (new ∷ []) others))
            (subst (λ (all : List Alert). AreJudged filter now last c.args.accepts.now 0 (stored_in c.args.alerts.now.entries) all (c.loop-new.accepted.items ++ new ∷ others) (c.loop-new.refused.items ++ rest))
            (sym (append_assoc done (new ∷ []) news))
            (so_far.judged.2 last (new ∷ news) (new ∷ others) rest (judged_more filter now i (length c.push_reserved.new.self.items + length c.loop-new.refused.items) last c.loop-new.accepts c.accepts-keeps.new.self olds _ new (new ∷ news) news others rest true judges stored refl (omega (arith, longer)) h))),
      );
      kept = c.in_ok-change.ensures.kept;
      back = ap (λ changes. all_taken_back changes entries) changes
          ∙ (all_back_last c.loop-new.changes.items change entries ∙ (ap (all_taken_back c.loop-new.changes.items) c.in_ok-change.ensures.change ∙ so_far.back));
      left = left;
      count = omega (arith, so_far.count, fewer, longer);
      room = omega (arith, so_far.room, fewer, c.push_reserved.ensures.len, c.push_reserved.ensures.capacity);
      space = omega (arith, so_far.space, fewer);
      changes = omega (arith, so_far.changes, fewer, c.push_reserved-then-keeps.ensures.len, c.push_reserved-then-keeps.ensures.capacity);
    }

pub loop-new-preserved-else-keeps : goal.loop-new-preserved-else-keeps
loop-new-preserved-else-keeps g c =
    let filter = g.F.FnMut in
    let so_far = c.loop-new.invariant in
    let now = c.args.now in
    let new = c.in-Some.new in
    let olds = stored_in c.loop-new.alerts.entries in
    let i = length c.loop-new.accepted.items + length c.loop-new.refused.items in
    let report : arc_value c.in_ok-became.became ≡ new = search rules in
    let became : arc_value c.absorb_one.new.block ≡ absorbed now (lookup new.labels olds) new = c.in_ok-change.ensures.became ∙ ap (λ (a : Alert). absorbed now (lookup a.labels olds) a) report in
    let judges = judges_of filter c.loop-new.accepts c.accepts-keeps.new.self c.deref.result _ c.is_first-first.result _ c.accepts-keeps.result false (c.deref.ensures ∙ became) c.is_first-first.ensures c.if-keeps.false c.accepts-keeps.ensures in
    let items : into_iter_items c.loop-new.new-iterator ≡ new ∷ into_iter_items c.next.new.self = search rules in
    let left : into_iter_len c.next.new.self ≡ length (into_iter_items c.next.new.self) = search rules in
    let fewer : into_iter_len c.loop-new.new-iterator ≡ into_iter_len c.next.new.self + 1 = omega (arith, ap length items, so_far.left, left) in
    let done = so_far.judged.0 in
    let one_done : (done ++ new ∷ []) ++ into_iter_items c.next.new.self ≡ c.args.news = append_assoc done (new ∷ []) (into_iter_items c.next.new.self) ∙ (ap (λ rest. done ++ rest) (sym items) ∙ so_far.judged.1) in
    let change = c.in_ok-change.change in
    let same = c.take_one_back.ensures ∙ c.in_ok-change.ensures.change in
    let pushed : c.push_reserved-else-keeps.new.self.items ≡ c.loop-new.refused.items ++ i ∷ [] = search rules in
    let longer : length c.push_reserved-else-keeps.new.self.items ≡ length c.loop-new.refused.items + 1 = omega (arith, ap length pushed, length-append c.loop-new.refused.items (i ∷ [])) in
    record {
      callable = mut_next filter _ _ _ _ _ c.accepts-keeps.ensures refl so_far.callable;
      judged = (
        done ++ new ∷ [],
        one_done,
        λ last news others rest h.
            subst (λ (front : List ℕ). AreJudged filter now last c.args.accepts.now 0 (stored_in c.args.alerts.now.entries) ((done ++ new ∷ []) ++ news) (c.loop-new.accepted.items ++ others) front)
            (sym (ap (λ front. front ++ rest) pushed ∙ append_assoc c.loop-new.refused.items (i ∷ []) rest))
            (subst (λ (all : List Alert). AreJudged filter now last c.args.accepts.now 0 (stored_in c.args.alerts.now.entries) all (c.loop-new.accepted.items ++ others) (c.loop-new.refused.items ++ i ∷ rest))
            (sym (append_assoc done (new ∷ []) news))
            (so_far.judged.2 last (new ∷ news) others (i ∷ rest) (judged_more filter now i (length c.loop-new.accepted.items + length c.push_reserved-else-keeps.new.self.items) last c.loop-new.accepts c.accepts-keeps.new.self olds _ new (new ∷ news) news others rest false judges (ap stored_in same) refl (omega (arith, longer)) h))),
      );
      kept = subst AreKeptByLabels (sym same) so_far.kept;
      back = ap (all_taken_back c.loop-new.changes.items) same ∙ so_far.back;
      left = left;
      count = omega (arith, so_far.count, fewer, longer);
      room = omega (arith, so_far.room, fewer);
      space = omega (arith, so_far.space, fewer, c.push_reserved-else-keeps.ensures.len, c.push_reserved-else-keeps.ensures.capacity);
      changes = omega (arith, so_far.changes, fewer);
    }

pub loop-new-preserved : goal.loop-new-preserved
loop-new-preserved g c =
    let filter = g.F.FnMut in
    let so_far = c.loop-new.invariant in
    let now = c.args.now in
    let new = c.in-Some.new in
    let olds = stored_in c.loop-new.alerts.entries in
    let i = length c.loop-new.accepted.items + length c.loop-new.refused.items in
    let report : arc_value c.in_ok-became.became ≡ new = search rules in
    let became : arc_value c.absorb_one.new.block ≡ absorbed now (lookup new.labels olds) new = c.in_ok-change.ensures.became ∙ ap (λ (a : Alert). absorbed now (lookup a.labels olds) a) report in
    let judges = judges_of filter c.loop-new.accepts c.accepts-keeps.new.self c.deref.result _ c.is_first-first.result _ c.accepts-keeps.result false (c.deref.ensures ∙ became) c.is_first-first.ensures c.if-keeps.false c.accepts-keeps.ensures in
    let items : into_iter_items c.loop-new.new-iterator ≡ new ∷ into_iter_items c.next.new.self = search rules in
    let left : into_iter_len c.next.new.self ≡ length (into_iter_items c.next.new.self) = search rules in
    let fewer : into_iter_len c.loop-new.new-iterator ≡ into_iter_len c.next.new.self + 1 = omega (arith, ap length items, so_far.left, left) in
    let done = so_far.judged.0 in
    let one_done : (done ++ new ∷ []) ++ into_iter_items c.next.new.self ≡ c.args.news = append_assoc done (new ∷ []) (into_iter_items c.next.new.self) ∙ (ap (λ rest. done ++ rest) (sym items) ∙ so_far.judged.1) in
    let change = c.in_ok-change.change in
    let same = c.take_one_back.ensures ∙ c.in_ok-change.ensures.change in
    let pushed : c.push_reserved-else-keeps.new.self.items ≡ c.loop-new.refused.items ++ i ∷ [] = search rules in
    let longer : length c.push_reserved-else-keeps.new.self.items ≡ length c.loop-new.refused.items + 1 = omega (arith, ap length pushed, length-append c.loop-new.refused.items (i ∷ [])) in
    record {
      callable = mut_next filter _ _ _ _ _ c.accepts-keeps.ensures refl so_far.callable;
      judged = (
        done ++ new ∷ [],
        one_done,
        λ last news others rest h.
            subst (λ (front : List ℕ). AreJudged filter now last c.args.accepts.now 0 (stored_in c.args.alerts.now.entries) ((done ++ new ∷ []) ++ news) (c.loop-new.accepted.items ++ others) front)
            (sym (ap (λ front. front ++ rest) pushed ∙ append_assoc c.loop-new.refused.items (i ∷ []) rest))
            (subst (λ (all : List Alert). AreJudged filter now last c.args.accepts.now 0 (stored_in c.args.alerts.now.entries) all (c.loop-new.accepted.items ++ others) (c.loop-new.refused.items ++ i ∷ rest))
            (sym (append_assoc done (new ∷ []) news))
            (so_far.judged.2 last (new ∷ news) others (i ∷ rest) (judged_more filter now i (length c.loop-new.accepted.items + length c.push_reserved-else-keeps.new.self.items) last c.loop-new.accepts c.accepts-keeps.new.self olds _ new (new ∷ news) news others rest false judges (ap stored_in same) refl (omega (arith, longer)) h))),
      );
      kept = subst AreKeptByLabels (sym same) so_far.kept;
      back = ap (all_taken_back c.loop-new.changes.items) same ∙ so_far.back;
      left = left;
      count = omega (arith, so_far.count, fewer, longer);
      room = omega (arith, so_far.room, fewer);
      space = omega (arith, so_far.space, fewer, c.push_reserved-else-keeps.ensures.len, c.push_reserved-else-keeps.ensures.capacity);
      changes = omega (arith, so_far.changes, fewer);
    }

pub returns-clause-judged : goal.returns-clause-judged
returns-clause-judged g c = grind (arith, common_steps, append-nil, nil_from_length, judged_all)

pub returns-in_err-became-clause-asked : goal.returns-in_err-became-clause-asked
returns-in_err-became-clause-asked g c =
    let so_far = c.loop-new.invariant in
    on_err c.from_residual-in_err-became.result (asked_some g.F.FnMut c.args.now c.loop-new.accepts c.args.accepts.now (stored_in c.args.alerts.now.entries) so_far.judged.0 (into_iter_items c.loop-new.new-iterator) c.args.news c.loop-new.accepted.items c.loop-new.refused.items so_far.judged.1
    (so_far.judged.2 c.loop-new.accepts [] [] [] (refl, refl, refl)))

pub returns-in_err-change-clause-asked : goal.returns-in_err-change-clause-asked
returns-in_err-change-clause-asked g c =
    let so_far = c.loop-new.invariant in
    on_err c.from_residual-in_err-change.result (asked_some g.F.FnMut c.args.now c.loop-new.accepts c.args.accepts.now (stored_in c.args.alerts.now.entries) so_far.judged.0 (into_iter_items c.loop-new.new-iterator) c.args.news c.loop-new.accepted.items c.loop-new.refused.items so_far.judged.1
    (so_far.judged.2 c.loop-new.accepts [] [] [] (refl, refl, refl)))
