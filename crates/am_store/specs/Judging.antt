-- How a filter judges the reports of a post before they are stored (Alertmanager's `AlertStoreCallback`,
-- whose PreStore may refuse an alert, as its limits do).
use Rattle.std.specs.Prelude.{◌≡◌, ℕ, ◌+◌, Bool, if◌then◌else◌, is_none, List, [], ◌∷◌, take, ⊤}
use Rattle.std.specs.Fn.{Called, Mut}
use denote.Ref.{Bor}
use Rattle.am_alert.specs.declared.alert.Alert.{Alert}
use Rattle.am_alert.specs.Merging.{absorbed}
use Rattle.am_store.specs.AlertList.{lookup, absorb_into}

-- what a filter is called with: a reference to an alert, and whether its label set is new
abbrev pub Filter : Type 0 → Type 1
Filter F = Mut F (Bor Alert × (Bool × ⊤)) Bool

-- a filter, as it was, was shown this alert, and answered whether it accepts it
pub record Judges {F : Type 0} (filter : Filter F) (was : F) (alert : Alert) (first accepts : Bool) (is : F)
    : Type 0 where
  pub shown : Bor Alert
  pub shows : shown.now ≡ alert
  pub called : Called filter was (shown, (first, tt)) accepts is

-- each report from index i on was judged as it would be stored over what is stored: those that were
-- accepted, which the ones after them see as stored, and the indices of those that were refused
abbrev pub AreJudged : {F : Type 0} → Filter F → ℕ → F → F → ℕ → List Alert → List Alert → List Alert
    → List ℕ → Type 0
AreJudged filter now last was i olds [] accepted refused = (accepted ≡ []) × (refused ≡ []) × (last ≡ was)
AreJudged {F} filter now last was i olds (new ∷ news) accepted refused =
    (accepts : Bool) × (is : F) × (others : List Alert) × (rest : List ℕ)
    × Judges filter was (absorbed now (lookup new.labels olds) new) (is_none (lookup new.labels olds))
    accepts is
    × (accepted ≡ (if accepts then new ∷ others else others))
    × (refused ≡ (if accepts then rest else i ∷ rest))
    × AreJudged filter now last is (i + 1) (if accepts then absorb_into now new olds else olds) news others
    rest

-- a filter was asked of the first reports up to some number, in order, and of no other
abbrev pub WasAsked : {F : Type 0} → Filter F → ℕ → F → F → List Alert → List Alert → Type 0
WasAsked filter now last was olds news = (count : ℕ) × (accepted : List Alert) × (refused : List ℕ)
    × AreJudged filter now last was 0 olds (take count news) accepted refused
