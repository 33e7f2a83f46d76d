-- Facts about the words of specs/FromParts.antt: what a post of alerts is.
use Rattle.std.proofs.Common.{◌≡◌, ℕ, ◌+◌, ◌≤◌, List, [], ◌∷◌, length, append-nil, Option, None, Some, Result, Ok, Err, arith, All}
use Rattle.std.proofs.lemmas.List.{nil_from_length}
use Rattle.am_alert.specs.declared.alert.Alert.{Alert}
use Rattle.am_alert.specs.declared.post.AlertFault.{AlertFault}
use Rattle.am_alert.specs.declared.post.PostFault.{PostFault}
use Rattle.am_posts.specs.FromParts.{elements_from}
use Rattle.am_posts.specs.Posts.{Entries, fault_of, judged, with_first}
use Rattle.am_alert.specs.ValidAlerts.{indices_of, Rises}
use Rattle.am_posts.proofs.Arrays.{with_front}

-- the indices of the faults of alerts from index i on
pub record AreIndexed (i : ℕ) (entries : Entries) : Type 0 where
  pub rising : Rises (indices_of entries.1)
  pub low : All (λ index. i ≤ index) (indices_of entries.1)

indexed_first : (i : ℕ) (alert : Alert) (f : Option AlertFault) (rest : Result Entries PostFault) (entries : Entries)
    → ((more : Entries) → rest ≡ Ok more → AreIndexed (i + 1) more) → with_first i (judged alert f) rest ≡ Ok entries → AreIndexed i entries
indexed_first i alert None (Ok more) entries others e = grind arith
indexed_first i alert None (Err f) entries others e = cc
indexed_first i alert (Some fault) (Ok more) entries others e = grind arith
indexed_first i alert (Some fault) (Err f) entries others e = cc

pub are_indexed : (i : ℕ) (alerts : List Alert) (entries : Entries) → elements_from i alerts ≡ Ok entries → AreIndexed i entries
are_indexed i [] entries e = grind arith
are_indexed i (alert ∷ rest) entries e = indexed_first i alert (fault_of alert) (elements_from (i + 1) rest) entries (λ more is. are_indexed (i + 1) rest more is) e

-- what was judged before the end is all
pub all_judged : (i : ℕ) (rest : List Alert) (all : Result Entries PostFault) (valid : List Alert) (faults : List (ℕ × AlertFault)) → length rest ≡ 0
    → with_front (valid, faults) (elements_from i rest) ≡ all → all ≡ Ok (valid, faults)
all_judged i rest all valid faults none e = grind (arith, with_front, nil_from_length, append-nil)
