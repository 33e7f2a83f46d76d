-- Facts about the words of specs/Merging.antt.
use Rattle.std.proofs.Common.{◌≡◌, ◌⊎◌, ⊎_elim, inl, inr, ℕ, ◌<◌, ◌≤◌, Bool, true, false, cond, not, ◌&&◌, ◌||◌, nat_lt, nat_le, refl, sym, arith}
use Rattle.std.proofs.lemmas.Bool.{cases_lt}
use Rattle.am_alert.specs.declared.alert.Alert.{Alert}
use Rattle.am_alert.specs.Merging.{is_resolved_at, older_end_wins, combined, merged}
use Rattle.am_alert.specs.Laws.{MergingStartsEarliest, MergingEndsAtAnEnd, YoungerReportDecides, YoungerReportStays, MergingHasNoOrder}

pub starts_earliest : MergingStartsEarliest
starts_earliest now stored new =
    elim (nat_lt new.updated stored.updated) as (λ b. ((cond b (combined now new stored) (combined now stored new)).start ≤ stored.start) × ((cond b (combined now new stored) (combined now stored new)).start ≤ new.start)) [
      | true ↦ (omega arith, omega arith)
      | false ↦ (omega arith, omega arith)
    ]

end_of : (b : Bool) (m n : ℕ) → (cond b m n ≡ m) ⊎ (cond b m n ≡ n)
end_of true m n = inl refl
end_of false m n = inr refl

swap : {A B : Type 0} → A ⊎ B → B ⊎ A
swap = ⊎_elim inr inl

pub ends_at_an_end : MergingEndsAtAnEnd
ends_at_an_end now stored new =
    elim (nat_lt new.updated stored.updated) as (λ b. ((cond b (combined now new stored) (combined now stored new)).end ≡ stored.end) ⊎ ((cond b (combined now new stored) (combined now stored new)).end ≡ new.end)) [
      | true ↦ swap (end_of (older_end_wins now new stored) new.end stored.end)
      | false ↦ end_of (older_end_wins now stored new) stored.end new.end
    ]

decides : (now older_end younger_end : ℕ) (timeout : Bool)
    → nat_le (cond (nat_lt younger_end older_end && ((nat_le older_end now && nat_le younger_end now) || (not (nat_le younger_end now) && not timeout))) older_end younger_end) now ≡ nat_le younger_end now
decides now older_end younger_end timeout = grind arith

pub younger_decides : YoungerReportDecides
younger_decides now stored new =
    elim (nat_lt new.updated stored.updated) as (λ b. is_resolved_at now (cond b (combined now new stored) (combined now stored new)) ≡ is_resolved_at now (cond b stored new)) [
      | true ↦ decides now new.end stored.end new.timeout
      | false ↦ decides now stored.end new.end stored.timeout
    ]

pub younger_stays : YoungerReportStays
younger_stays now stored new =
    elim (nat_lt new.updated stored.updated) as (λ b. let both = cond b (combined now new stored) (combined now stored new) in both ≡ record (cond b stored new) { start = both.start; end = both.end }) [
      | true ↦ refl
      | false ↦ refl
    ]

-- the report updated at the lower moment is the older one, whichever came first
in_order : (now : ℕ) (older later : Alert) → older.updated < later.updated → merged now older later ≡ merged now later older
in_order now older later lt = grind arith

pub has_no_order : MergingHasNoOrder
has_no_order now one other apart =
    ⊎_elim
    (λ (lt : one.updated < other.updated). in_order now one other lt)
    (λ (le : other.updated ≤ one.updated). sym (in_order now other one (omega arith)))
    (cases_lt one.updated other.updated)
