use Rattle.std.proofs.Common.{◌≡◌, ◌<◌, ◌++◌, ◌∷◌, [], length, set, get_or, sym, ap, ◌∙◌, arith, length-append, length-set, get_or-set_same}
use Rattle.std.proofs.lemmas.List.{set-get_or, set-set}
use Rattle.std.proofs.lemmas.List.Edits.{map_over_more}
use Rattle.am_inhibit.specs.inside.Indexes.{index_with, index_before, indexes_before}
use Rattle.am_inhibit.proofs.Indexes.{back_one}
use Rattle.am_inhibit.proofs.inhibitor.add_to_all.Goals as goal

pub loop-index-preserved : goal.loop-index-preserved
loop-index-preserved c =
    let olds = c.args.indexes.now in
    let indexes = c.loop-index.indexes in
    let at = c.loop-index.index in
    let f = index_with c.args.at c.args.labels.now in
    let old = c.index-indexes-index.result in
    let new = c.add.new.self in
    let changes = c.loop-index.changes.items in
    let change = c.in-Ok.change in
    let is : old ≡ get_or indexes at old = c.index-indexes-index.is in
    let early : at < length olds = c.loop-index-test.true in
    let long : length indexes ≡ length olds = c.loop-index.auto.indexes in
    let made : new ≡ f old = c.in-Ok.ensures.added ∙ ap f (sym is) in
    let count : length changes ≡ at = c.loop-index.invariant.count in
    let after = set indexes at new in
    let pushed : c.push_reserved.new.self.items ≡ changes ++ change ∷ [] = c.push_reserved.ensures.items in
    let there : at < length indexes = omega arith in
    let first : length changes < length after = omega (arith, length-set indexes at new) in
    let got : new ≡ get_or after (length changes) new = sym (get_or-set_same indexes at new new there) ∙ ap (λ n. get_or after n new) (sym count) in
    let back : index_before change new ≡ old = c.in-Ok.ensures.undo ∙ sym is in
    let undone : set after (length changes) (index_before change new) ≡ indexes =
    ap (λ n. set after n (index_before change new)) count
    ∙ (ap (set after at) back ∙ (set-set indexes at new old ∙ (ap (set indexes at) is ∙ set-get_or indexes at old))) in
    record {
      added = ap (set indexes at) made ∙ map_over_more f olds indexes at old early c.loop-index.invariant.added is;
      before = ap (λ l. indexes_before l after) pushed
          ∙ (sym (back_one changes change after new first got) ∙ (ap (indexes_before changes) undone ∙ c.loop-index.invariant.before));
      count = ap length pushed ∙ omega (arith, length-append changes (change ∷ []), count);
      room = c.push_reserved.ensures.capacity ∙ c.loop-index.invariant.room;
    }
