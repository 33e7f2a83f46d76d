use Rattle.std.proofs.Common.{◌≡◌, ◌∙◌, ◌+◌, ◌-◌, ◌<◌, [], length, map, sym, ap, subst, arith}
use Rattle.std.specs.List.{All}
use Rattle.std.proofs.lemmas.List.{length-map}
use mathlib.Core.List.{IsPrefix}
use Rattle.am_history.specs.Fronts.{FrontView, AreMade, AreMadeOnce, IsMade}
use Rattle.am_store.specs.Journal.{journal_of, lefts_of}
use Rattle.am_provider.specs.Batches.{posts_in}
use Rattle.am_cast.specs.Changes.{AreInLog}
use Rattle.am_cast.specs.Rule.{Once}
use Rattle.am_provider.specs.BookView.{batches}
use Rattle.am_provider.specs.Ending.{IsLeftOf, IsOwed}
use Rattle.am_provider.specs.Histories.{EntryView, endings_of}
use Rattle.am_provider.specs.inside.Endings.{is_since}
use Rattle.am_provider.specs.Settling.{IsOwn, JoinedView, made_of, own_in, own_of, parts_in}
use Rattle.am_provider.proofs.Recording.{owed_whole, stored_whole}
use Rattle.am_provider.proofs.Leaving.{ended_whole, left_whole}
use Rattle.am_provider.proofs.Trimming.{filter_all, posts_trimmed}
use Rattle.am_provider.proofs.provider.Provider.settle.Goals.{in-None, in-Some}
use Rattle.am_provider.proofs.provider.Provider.settle.Goals as goal

pub returns-clause-settled : goal.returns-clause-settled
returns-clause-settled g c =
    let entries = c.recorded.inside.history in
    let book = c.recorded.inside.book in
    let of = c.recorded.invariant.0 in
    let settled = c.settle_joined.ensures.settled in
    let end = c.settle_joined.result in
    let passes = map (λ caller. caller.pass) c.args.callers.items in
    let fronts = map (λ caller. caller.front) c.args.callers.items in
    let early : end.early + length end.ended.items ≡ length (endings_of entries) = omega (arith, of.early, settled.early) in
    let lefts : length (endings_of entries) ≡ lefts_of (journal_of end.journal) = omega (arith, early, settled.ends) in
    let owed = subst (All (IsOwed entries)) (sym settled.ended) (filter_all (is_since book.gone) (IsOwed entries) (IsOwed entries) book.endings (λ e late own. own) (owed_whole book entries of c.kept.ensures)) in
    let stored = settled.store ∙ stored_whole book entries of c.kept.ensures in
    let complete = c.settle_joined.ensures.complete in
    let left : IsLeftOf entries end = record {
      legal = of.legal;
      journal = left_whole book entries end of settled;
      stored = stored;
      endings = ended_whole book entries end of settled;
      early = early;
      lefts = lefts;
      owed = owed;
    } in
    let senders = posts_trimmed book.journal (journal_of end.journal) (book.gone - book.journal.before) (posts_in (batches book)) settled.journal c.kept.ensures.posts in
    let long : c.len-count.result ≡ length c.args.callers.items = omega (arith, c.len-count.ensures, c.args.callers.ok.0) in
    elim c.match-gather.branch [
      | in-Some w ↦
          let gathered = w.in-Some.ensures.gathered in
          let audit = w.audit.ensures in
          let same = w.in-Some.ensures.same in
          let front = w.in-Some.front in
          let made : front.made ≡ made_of fronts = ap (λ (f : FrontView EntryView). f.made) gathered.1 in
          let own : own_in c.match-gather.passes ≡ own_of passes = ap own_in w.passes-is ∙ ap (λ (j : JoinedView). j.own) gathered.0 in
          let many = length-map c.args.callers.items (λ caller. caller.front) in
          record {
            entries = entries;
            log = batches book;
            left = left;
            sent = record {
              sent = of.sent;
              senders = senders;
              own = subst (λ own. AreInLog own (batches book)) own settled.posts;
              once = subst Once own settled.once;
              all = λ yes place inside. subst (λ own. IsOwn own place) own (settled.all yes place inside);
            };
            made = record {
              seen = gathered.2;
              made = subst (λ list. AreMade list entries) made (subst (AreMade front.made) same audit.made);
              once = subst AreMadeOnce made audit.once;
              all = λ yes index inside.
                  let parts : front.parts ≡ g.N.Timeline.holders = ap (λ (f : FrontView EntryView). f.parts) gathered.1 ∙ (many ∙ (sym long ∙ (complete.0 yes ∙ sym c.recorded.invariant.1.0))) in
                  subst (λ list. IsMade list index) made (audit.all parts index (subst (λ list. index < length list) (sym same) inside));
            };
          }
      | in-None w ↦
          let gathered = w.in-None.ensures.gathered in
          let none : fronts ≡ [] = gathered.1 in
          let nobody : length c.args.callers.items ≡ 0 = sym (length-map c.args.callers.items (λ caller. caller.front)) ∙ ap length none in
          let own : own_in c.match-gather.passes ≡ own_of passes = ap own_in w.passes-is ∙ ap own_of (sym gathered.0) in
          record {
            entries = entries;
            log = batches book;
            left = left;
            sent = record {
              sent = of.sent;
              senders = senders;
              own = subst (λ own. AreInLog own (batches book)) own settled.posts;
              once = subst Once own settled.once;
              all = λ yes place inside. subst (λ own. IsOwn own place) own (settled.all yes place inside);
            };
            made = record {
              seen = subst (All (λ (front : FrontView EntryView). IsPrefix front.seen entries)) (sym none) (λ k d h. absurd (omega arith));
              made = subst (λ list. AreMade (made_of list) entries) (sym none) (λ k m e. absurd (cc));
              once = subst (λ list. AreMadeOnce (made_of list)) (sym none) tt;
              all = λ yes index inside. absurd (let some = complete.0 yes in let one = c.recorded.invariant.1.1 in omega (arith, long, nobody, some, one));
            };
          }
    ]

pub settle_joined-requires : goal.settle_joined-requires
settle_joined-requires g c =
    let long : c.len-count.result ≡ length c.args.callers.items = omega (arith, c.len-count.ensures, c.args.callers.ok.0) in
    elim c.match-gather.branch [
      | in-Some w ↦
          ap parts_in w.passes-is
          ∙ (ap (λ (j : JoinedView). j.parts) w.in-Some.ensures.gathered.0 ∙ (length-map c.args.callers.items (λ caller. caller.pass) ∙ sym long))
      | in-None w ↦
          let none : map (λ caller. caller.pass) c.args.callers.items ≡ [] = w.in-None.ensures.gathered.0 in
          ap parts_in w.passes-is ∙ (sym (ap length none) ∙ (length-map c.args.callers.items (λ caller. caller.pass) ∙ sym long))
    ]
