-- What memory has of a Book at its end, by its history.
use Rattle.std.proofs.Common.{◌≡◌, ◌∙◌, ℕ, ◌+◌, ◌-◌, ◌≤◌, List, length, filter, sym, ap, subst, arith, length-append, length-drop}
use Rattle.std.proofs.lemmas.List.{length-map}
use Rattle.am_cast.specs.Keys.{batch_items}
use Rattle.am_store.specs.Journal.{JournalView, first_calls, journal_of}
use Rattle.am_store.specs.Broadcast.{broadcast}
use Rattle.am_store.specs.Trims.{IsTrimmed}
use Rattle.am_store.proofs.Trims.{trimmed_sent, trimmed_twice}
use Rattle.am_cast.specs.declared.views.Own.{Own}
use Rattle.am_provider.specs.declared.answers.Policy.{Policy}
use Rattle.am_provider.specs.declared.settled.Settled.{Settled}
use Rattle.am_provider.specs.Batches.{Batch, sent_in}
use Rattle.am_provider.specs.BookView.{BookView, IsFaithful, batches, places_of}
use Rattle.am_provider.specs.Histories.{EntryView, endings_of, gone_by, kept_endings, trimmed_by, whole}
use Rattle.am_provider.specs.Settling.{IsSettled}
use Rattle.am_provider.specs.inside.Endings.{is_since}
use Rattle.am_provider.specs.inside.Records.{IsRecorded}
use Rattle.am_provider.proofs.Endings.{kept_twice}

-- the log has as many batches as what is left of the journal counts
pub places_left : (book : BookView) (journal : JournalView) (count : ℕ) → IsFaithful book → IsTrimmed book.journal count journal → length (batches book) ≡ places_of journal
places_left book journal count kept of =
    let sent : length (sent_in (batches book)) ≡ length (batches book) = length-map (batches book) (λ (b : Batch). batch_items b) in
    let all : length (broadcast book.journal) ≡ length (sent_in (batches book)) - book.journal.places = sym (ap length kept.journal.log) ∙ length-drop book.journal.places (sent_in (batches book)) in
    let parts = ap length (trimmed_sent book.journal journal count of) in
    let more = length-append (broadcast (first_calls count book.journal)) (broadcast journal) in
    omega (arith, kept.journal.places, sent, all, parts, more, of.places)

module _ {policy : Policy} {places : ℕ} {own : List (Own Batch)} (book : BookView) (entries : List EntryView) (end : Settled) (of : IsRecorded policy places book entries) (settled : IsSettled book own end) where
  -- the journal is what trims and compactions left of the whole history
  pub left_whole : IsTrimmed (whole entries) (gone_by entries) (journal_of end.journal)
  left_whole =
      let more : ℕ = book.gone - book.journal.before in
      let low = settled.gone.0 in
      let high = settled.gone.1 in
      let within : more ≤ length book.journal.calls = omega arith in
      let all : trimmed_by entries + more ≡ gone_by entries = omega (arith, of.gone, of.journal.before) in
      subst (λ n. IsTrimmed (whole entries) n (journal_of end.journal)) all
      (trimmed_twice (whole entries) book.journal (journal_of end.journal) (trimmed_by entries) more of.few within of.journal settled.journal)

  -- and so are the endings
  pub ended_whole : end.ended.items ≡ kept_endings entries
  ended_whole =
      let low : trimmed_by entries ≤ book.gone = omega (arith, settled.gone.0, of.journal.before) in
      settled.ended ∙ (ap (filter (is_since book.gone)) of.endings
      ∙ (kept_twice (trimmed_by entries) book.gone low (endings_of entries) ∙ ap (λ n. filter (is_since n) (endings_of entries)) of.gone))
