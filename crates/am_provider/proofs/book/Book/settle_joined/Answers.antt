use Rattle.std.proofs.Common.{◌-◌, ◌∙◌, ◌<◌, length, sym, subst}
use Rattle.am_cast.specs.Changes.{AreInLog}
use Rattle.am_store.specs.Journal.{journal_of}
use Rattle.am_store.proofs.Trims.{trimmed_lefts, trimmed_posts}
use Rattle.am_provider.specs.Batches.{LogView}
use Rattle.am_provider.specs.Settling.{own_in}
use Rattle.am_provider.proofs.Leaving.{places_left}
use Rattle.am_provider.proofs.book.Book.settle_joined.Goals as goal

pub returns-clause-settled : goal.returns-clause-settled
returns-clause-settled g c =
    let parts = c.into_parts-journal.ensures in
    let audit = c.audit-complete.ensures in
    let own = own_in c.args.all in
    record {
      faithful = parts.faithful;
      gone = parts.gone;
      journal = parts.journal;
      store = parts.stored;
      ended = parts.ended;
      early = parts.early;
      ends = parts.early ∙ (parts.faithful.ends ∙ sym (trimmed_lefts c.args.self.journal (journal_of c.into_parts-journal.result.journal) (c.args.self.gone - c.args.self.journal.before) parts.journal));
      posts = subst (λ (q : LogView). AreInLog own q.tail.log) parts.log.0 audit.stand;
      once = audit.once;
      all = λ yes place inside. audit.all yes place (subst (λ (q : LogView). place < length q.tail.log) (sym parts.log.0) inside);
    }

pub invariant_of-result-clause-places_of_journal : goal.invariant_of-result-clause-places_of_journal
invariant_of-result-clause-places_of_journal g c =
    let parts = c.into_parts-journal.ensures in
    c.counts-places.ensures.places ∙ places_left c.args.self (journal_of c.into_parts-journal.result.journal) (c.args.self.gone - c.args.self.journal.before) parts.faithful parts.journal

pub invariant_of-result-clause-posts_of_journal : goal.invariant_of-result-clause-posts_of_journal
invariant_of-result-clause-posts_of_journal g c =
    let parts = c.into_parts-journal.ensures in
    c.counts-places.ensures.posts ∙ sym (trimmed_posts c.args.self.journal (journal_of c.into_parts-journal.result.journal) (c.args.self.gone - c.args.self.journal.before) parts.journal)
