-- How a journal is kept as it grows, as memory lets go of calls, and as it is trimmed.
use Rattle.std.proofs.Common.{◌≡◌, ℕ, ◌+◌, ◌-◌, ◌≤◌, List, [], ◌∷◌, ◌++◌, length, sym, ap, subst, ◌∙◌, arith, length-append, length-drop, rules}
use Rattle.std.specs.declared.alloc.Global.{Global}
use Rattle.std.specs.declared.collections.VecDeque.{VecDeque}
use Rattle.am_store.specs.declared.past.Past.{Past}
use Rattle.am_alert.specs.declared.alert.Alert.{Alert}
use Rattle.am_store.specs.declared.call.Call.{Call}
use Rattle.am_store.specs.declared.journal.Journal.{Journal}
use Rattle.am_store.specs.Journal.{JournalView, journal_of, with_call, first_calls, AreCounted, MayFollow, IsLegal}
use Rattle.am_store.specs.Stored.{updates, stored}
use Rattle.am_store.specs.Trims.{IsTrimmed}
use Rattle.am_store.proofs.Journals.{first_all, legal_last}
use Rattle.am_store.proofs.Trims.{trimmed_gives_the_same, trimmed_grows, trimmed_twice, trimmed_legal, trimmed_stored, first_stored}
use Rattle.am_store.specs.KeptJournals.{calls_in, journal_with, trimmed_to, IsKeptJournal}
use Rattle.am_store.proofs.Keeping.{trimmed_between, trimmed_to_so}

-- ---- the view

pub calls_more : (pasts : List (Past Call)) (last : Past Call) (call : Call) → last.value ≡ call
    → calls_in (pasts ++ last ∷ []) ≡ calls_in pasts ++ call ∷ []
calls_more [] last call e = ap (λ c. c ∷ []) e
calls_more (first ∷ pasts) last call e = ap (λ rest. first.value ∷ rest) (calls_more pasts last call e)

-- ---- a new journal

-- what was counted stays as calls come
pub counted_with : (held : Journal) (calls : VecDeque Call Global) → AreCounted held → AreCounted (record held { calls = calls })
counted_with held calls counted = grind arith

module _ (before : ℕ) (calls : List Call) (held : Journal) (kept : IsKeptJournal before calls held) where
  -- how many calls memory has
  pub held_count : length held.calls.items ≡ length calls - held.before
  held_count = ap length kept.trimmed.calls ∙ length-drop held.before calls

  -- what trims left, as a trim of all calls
  pub trims_left : IsTrimmed (journal_with calls) before (trimmed_to before calls)
  trims_left = trimmed_to_so calls before kept.legal

  pub held_legal : IsLegal (journal_of held)
  held_legal = trimmed_legal (journal_with calls) (journal_of held) held.before kept.trimmed kept.legal

  -- memory has what a trim would leave of what trims left
  pub held_trimmed : IsTrimmed (trimmed_to before calls) (held.before - before) (journal_of held)
  held_trimmed =
      let same : held.before ≡ before + (held.before - before) = omega (arith, kept.few) in
      trimmed_between (journal_with calls) (trimmed_to before calls) (journal_of held) before (held.before - before) trims_left
      (subst (λ n. IsTrimmed (journal_with calls) n (journal_of held)) same kept.trimmed)

  -- what is stored is what memory's journal gives
  pub stored_same : (store : List Alert) → store ≡ stored (updates (trimmed_to before calls)) → store ≡ stored (updates (first_calls (length held.calls.items) (journal_of held)))
  stored_same store is =
      is ∙ (trimmed_stored (journal_with calls) (trimmed_to before calls) before trims_left
      ∙ (sym (trimmed_stored (journal_with calls) (journal_of held) held.before kept.trimmed)
      ∙ ap (λ j. stored (updates j)) (sym (first_all (journal_of held)))))

  -- and so is what was stored when some of its calls had been made
  pub first_same : (store : List Alert) (count more : ℕ) → before + count ≡ held.before + more → store ≡ stored (updates (first_calls count (trimmed_to before calls)))
      → store ≡ stored (updates (first_calls more (journal_of held)))
  first_same store count more same is =
      is ∙ (first_stored (journal_with calls) (trimmed_to before calls) before trims_left count
      ∙ (ap (λ n. stored (updates (first_calls n (journal_with calls)))) same
      ∙ sym (first_stored (journal_with calls) (journal_of held) held.before kept.trimmed more)))

  -- ---- one call more

  pub kept_pushed : (call : Call) (new : Journal) → MayFollow (trimmed_to before calls) call → journal_of new ≡ with_call (journal_of held) call → AreCounted new
      → IsKeptJournal before (calls ++ call ∷ []) new
  kept_pushed call new may grown counted =
      let begun : new.before ≡ held.before = ap (λ (j : JournalView). j.before) grown in
      let long = length-append calls (call ∷ []) in
      let follow = (trimmed_gives_the_same (journal_with calls) (trimmed_to before calls) before (omega (arith, kept.few, kept.within)) trims_left).follow call in
      record {
        legal = legal_last (journal_with calls) call kept.legal (follow.0 may);
        few = omega (arith, kept.few, begun);
        within = omega (arith, kept.within, begun, long);
        trimmed = subst (λ (j : JournalView). IsTrimmed (journal_with (calls ++ call ∷ [])) j.before j) (sym grown)
            (trimmed_grows (journal_with calls) (journal_of held) held.before call kept.within kept.trimmed);
        counted = counted;
      }

  -- ---- more room

  -- ---- memory lets go of some calls

  pub kept_dropped : (after count : ℕ) (new : Journal) → count ≤ length held.calls.items → IsTrimmed (journal_of held) count (journal_of new) → AreCounted new
      → after ≤ new.before → IsKeptJournal after calls new
  kept_dropped after count new within trimmed counted few =
      let long = held_count in
      record {
        legal = kept.legal;
        few = few;
        within = omega (arith, trimmed.before, within, long, kept.within);
        trimmed = subst (λ n. IsTrimmed (journal_with calls) n (journal_of new)) (sym trimmed.before)
            (trimmed_twice (journal_with calls) (journal_of held) (journal_of new) held.before count kept.within within kept.trimmed trimmed);
        counted = counted;
      }

  -- ---- trims discard some calls more

  pub trims_more : (count : ℕ) → IsTrimmed (trimmed_to before calls) count (trimmed_to (before + count) calls)
  trims_more count = search (rules, trimmed_between, trims_left, trimmed_to_so)
