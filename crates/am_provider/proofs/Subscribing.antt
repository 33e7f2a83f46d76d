-- A subscription as it moves on.
use Rattle.std.proofs.Common.{◌≡◌, ℕ, Bool, ◌+◌, ◌-◌, ◌%◌, ◌^◌, ◌≤◌, true, false, List, [], ◌∷◌, ◌++◌, length, take, Some, refl, sym, ap, subst, ◌∙◌, arith, length-append}
use Rattle.std.specs.List.{slice_get}
use Rattle.std.specs.Prelude.{Option}
use Rattle.std.proofs.lemmas.Bool.{false≢true}
use Rattle.std.proofs.lemmas.List.{append_assoc, append-nil}
use Rattle.am_alert.specs.declared.alert.Alert.{Alert}
use Rattle.am_store.specs.declared.call.Call.{Call}
use Rattle.am_store.specs.declared.lanes.OpenLane.{OpenLane}
use Rattle.am_cast.specs.Cursors.{CursorView, GoesOn, HasCut, HasEnded}
use Rattle.am_cast.specs.Cursors as cast
use Rattle.am_cast.specs.Lent.{IsInHand, Moves}
use Rattle.am_cast.specs.declared.lends.Moved.{Moved}
use Rattle.am_cast.specs.declared.lends.Moved.TheVariants as moved
use Rattle.am_store.proofs.Journals.{take_more}
use Rattle.am_provider.specs.Subscriptions.{SubscriptionView, taken}
use Rattle.am_provider.specs.declared.answers.Step.{Step}
use Rattle.am_provider.specs.declared.answers.Step.TheVariants as step
use Rattle.am_provider.specs.declared.subscription.Advance.{Advance}
use Rattle.am_provider.specs.declared.subscription.Advance.TheVariants as advance
use Rattle.am_provider.specs.Batches.{Batch}
use Rattle.am_provider.specs.Showings.{Shows, ShowsItem, ShowsNone, ShowsPast, StaysShown}
use Rattle.am_provider.specs.inside.Advances.{Advances, AdvancesPast, IsShown, LetsGo, Notes}
use Rattle.am_provider.specs.inside.Subscribed.{IsFresh, IsHeld, IsSubscription}

-- so many alerts more, as far as a u64 counts
pub some_more : (count next more : ℕ) (xs ys : List Alert) → count ≡ length xs % 2 ^ 64 → next ≡ (count + more) % 2 ^ 64 → length ys ≡ length xs + more → next ≡ length ys % 2 ^ 64
some_more count next more xs ys was is long = let l = length xs in let m = length ys in omega arith

pub took_more : (old new : SubscriptionView) (alerts : List Alert) → new.opening ≡ old.opening → new.shown ≡ old.shown → cast.shown_items new.cursor ≡ cast.shown_items old.cursor ++ alerts → taken new ≡ taken old ++ alerts
took_more old new alerts opening shown took =
    let front : take new.shown new.opening ≡ take old.shown old.opening = ap (take new.shown) opening ∙ ap (λ n. take n old.opening) shown in
    ap (λ xs. xs ++ cast.shown_items new.cursor) front ∙ (ap (λ xs. take old.shown old.opening ++ xs) took ∙ sym (append_assoc (take old.shown old.opening) (cast.shown_items old.cursor) alerts))

-- the log showed these alerts
pub logged_more : (old new : SubscriptionView) (count next : ℕ) (alerts : List Alert) → IsSubscription old count → length old.opening ≤ old.shown
    → new ≡ record old { cursor = new.cursor } → GoesOn old.cursor new.cursor → (HasEnded old.cursor → ⊥)
    → cast.shown_items new.cursor ≡ cast.shown_items old.cursor ++ alerts → next ≡ (count + length alerts) % 2 ^ 64
    → IsSubscription new next
logged_more old new count next alerts was past same on ongoing took counts =
    let opening : new.opening ≡ old.opening = ap (λ (s : SubscriptionView). s.opening) same in
    let shown : new.shown ≡ old.shown = ap (λ (s : SubscriptionView). s.shown) same in
    let at : new.at ≡ old.at = ap (λ (s : SubscriptionView). s.at) same in
    let told : new.closed_told ≡ old.closed_told = ap (λ (s : SubscriptionView). s.closed_told) same in
    let within = was.within in
    record {
      within = omega (arith, ap length opening);
      first = λ less. absurd (omega (arith, ap length opening));
      note = on.2 ∙ (was.note ∙ (ap (λ a. Some (record { at = a; opening = old.opening })) (sym at) ∙ ap (λ o. Some (record { at = new.at; opening = o })) (sym opening)));
      told = λ yes. absurd (ongoing (was.told (sym told ∙ yes)).0);
      counted = some_more count next (length alerts) (taken old) (taken new) was.counted counts (ap length (took_more old new alerts opening shown took) ∙ length-append (taken old) alerts);
    }

-- an alert more of the opening was shown
pub opened_one : (old new : SubscriptionView) (alert : Alert) → old.closed_told ≡ false → IsFresh old.cursor → new ≡ record old { shown = old.shown + 1 }
    → slice_get new.opening (new.shown - 1) ≡ Some alert → ShowsItem old alert new
opened_one old new alert untold fresh same here =
    let opening : new.opening ≡ old.opening = ap (λ (s : SubscriptionView). s.opening) same in
    let shown : new.shown ≡ old.shown + 1 = ap (λ (s : SubscriptionView). s.shown) same in
    let cursor : new.cursor ≡ old.cursor = ap (λ (s : SubscriptionView). s.cursor) same in
    let told : new.closed_told ≡ old.closed_told = ap (λ (s : SubscriptionView). s.closed_told) same in
    let index : new.shown - 1 ≡ old.shown = omega arith in
    let got : slice_get old.opening old.shown ≡ Some alert = sym (ap (slice_get new.opening) index ∙ ap (λ o. slice_get o old.shown) opening) ∙ here in
    let more : take new.shown new.opening ≡ take old.shown old.opening ++ alert ∷ [] = ap (take new.shown) opening ∙ (ap (λ n. take n old.opening) shown ∙ take_more old.opening old.shown alert got) in
    let none : cast.shown_items new.cursor ≡ [] = ap cast.shown_items cursor ∙ fresh.taken in
    record {
      taken = ap (λ xs. xs ++ cast.shown_items new.cursor) more ∙ (ap (λ xs. (take old.shown old.opening ++ alert ∷ []) ++ xs) none
          ∙ (append-nil (take old.shown old.opening ++ alert ∷ []) ∙ ap (λ xs. xs ++ alert ∷ []) (sym (append-nil (take old.shown old.opening)) ∙ ap (λ xs. take old.shown old.opening ++ xs) (sym fresh.taken))));
      at = ap (λ (s : SubscriptionView). s.at) same;
      opening = opening;
      on = subst (GoesOn old.cursor) (sym cursor) (refl, refl, refl, refl, ([], append-nil old.cursor.lane.front));
      told = (untold, told ∙ untold);
      was_uncut = λ cut. absurd (let no : false ≡ true = sym fresh.cut ∙ cut.0 in cc);
    }

-- an alert more of the log was shown
shown_one : (old new : SubscriptionView) (alert : Alert) → Advances old advance.Logged new → IsInHand new.cursor alert → ShowsItem old alert new
shown_one old new alert moved here =
    let rest = moved.0.rest in
    let opening : new.opening ≡ old.opening = ap (λ (s : SubscriptionView). s.opening) rest in
    let shown : new.shown ≡ old.shown = ap (λ (s : SubscriptionView). s.shown) rest in
    let told : new.closed_told ≡ old.closed_told = ap (λ (s : SubscriptionView). s.closed_told) rest in
    record {
      taken = took_more old new (alert ∷ []) opening shown (moved.2.taken alert here);
      at = ap (λ (s : SubscriptionView). s.at) rest;
      opening = opening;
      on = moved.0.on;
      told = (moved.1, told ∙ moved.1);
      was_uncut = moved.2.was_uncut;
    }

-- the cursor moved on and showed nothing
pub looked : (old new : SubscriptionView) → new ≡ record old { cursor = new.cursor } → GoesOn old.cursor new.cursor → cast.shown_items new.cursor ≡ cast.shown_items old.cursor → StaysShown old new
looked old new rest on same = record {
  rest = rest;
  on = on;
  taken = took_more old new [] (ap (λ (s : SubscriptionView). s.opening) rest) (ap (λ (s : SubscriptionView). s.shown) rest) (same ∙ sym (append-nil (cast.shown_items old.cursor))) ∙ append-nil (taken old);
}

module _ (old new : SubscriptionView) (count next : ℕ) where
  -- where the opening was shown, the end is told of a log that was ended
  pub still_untold : IsSubscription old count → (HasEnded old.cursor → ⊥) → old.closed_told ≡ false
  still_untold was ongoing = untold old.closed_told refl
    where
      untold : (told : Bool) → old.closed_told ≡ told → told ≡ false
      untold false is = refl
      untold true is = absurd (ongoing (was.told is).0)

  -- the cursor showed no item, so the count stays
  none_counted : IsSubscription old count → (told : Bool) → ShowsNone old told new → cast.shown_items new.cursor ≡ cast.shown_items old.cursor → next ≡ count
      → (told ≡ true → HasEnded new.cursor) → IsSubscription new next
  none_counted was told none same counts ended =
      let opening : new.opening ≡ old.opening = ap (λ (s : SubscriptionView). s.opening) none.rest in
      let shown : new.shown ≡ old.shown = ap (λ (s : SubscriptionView). s.shown) none.rest in
      let at : new.at ≡ old.at = ap (λ (s : SubscriptionView). s.at) none.rest in
      let tells : new.closed_told ≡ told = ap (λ (s : SubscriptionView). s.closed_told) none.rest in
      let front : take new.shown new.opening ≡ take old.shown old.opening = ap (take new.shown) opening ∙ ap (λ n. take n old.opening) shown in
      let took : taken new ≡ taken old = ap (λ xs. xs ++ cast.shown_items new.cursor) front ∙ ap (λ xs. take old.shown old.opening ++ xs) same in
      let all : new.shown ≡ length new.opening = shown ∙ (none.shown ∙ ap length (sym opening)) in
      let on = none.on in
      record {
        within = omega (arith, all);
        first = λ less. absurd (omega (arith, all));
        note = on.2 ∙ (was.note ∙ (ap (λ a. Some (record { at = a; opening = old.opening })) (sym at) ∙ ap (λ o. Some (record { at = new.at; opening = o })) (sym opening)));
        told = λ yes. (ended (sym tells ∙ yes), all);
        counted = counts ∙ (was.counted ∙ ap (λ xs. length xs % 2 ^ 64) (sym took));
      }

  -- a move of the cursor that was noted is an advance of the subscription, which is one again
  pub noted : (moved : Moved) (given : Advance) → IsSubscription old count → old.shown ≡ length old.opening
      → new ≡ record old { cursor = new.cursor; closed_told = new.closed_told } → GoesOn old.cursor new.cursor
      → Moves old.cursor new.cursor moved → Notes moved count old.closed_told given next new.closed_told
      → IsSubscription new next × Advances old given new
  noted moved.One given was shown same on item notes =
      let told = still_untold was item.was_open in
      let rest : new ≡ record old { cursor = new.cursor } = same ∙ ap (λ (t : Bool). record old { cursor = new.cursor; closed_told = t }) notes.2 in
      let past : length old.opening ≤ old.shown = omega (arith, shown) in
      let none : ShowsNone old old.closed_told new = record { shown = shown; rest = rest; on = on } in
      (logged_more old new count next (item.there.0 ∷ []) was past rest on item.was_open (item.taken item.there.0 item.there.1) notes.1, subst (λ (a : Advance). Advances old a new) (sym notes.0) (none, told, item))
  noted moved.Pending given was shown same on pending notes =
      let told = still_untold was pending.was_open in
      let none : ShowsNone old old.closed_told new = record { shown = shown; rest = same ∙ ap (λ (t : Bool). record old { cursor = new.cursor; closed_told = t }) notes.2; on = on } in
      (none_counted was old.closed_told none pending.taken notes.1 (λ yes. absurd (false≢true (sym told ∙ yes))), subst (λ (a : Advance). Advances old a new) (sym notes.0) (none, pending))
  noted moved.Closed given was shown same on closed notes =
      let none : ShowsNone old true new = record { shown = shown; rest = same ∙ ap (λ (t : Bool). record old { cursor = new.cursor; closed_told = t }) notes.2; on = on } in
      (none_counted was true none closed.taken notes.1 (λ yes. closed.ended), subst (λ (a : Advance). Advances old a new) (sym notes.0) (none, closed))
  noted moved.Cut given was shown same on cut notes =
      let told = still_untold was cut.was_open in
      let none : ShowsNone old old.closed_told new = record { shown = shown; rest = same ∙ ap (λ (t : Bool). record old { cursor = new.cursor; closed_told = t }) notes.2; on = on } in
      (none_counted was old.closed_told none cut.taken notes.1 (λ yes. absurd (false≢true (sym told ∙ yes))), subst (λ (a : Advance). Advances old a new) (sym notes.0) (none, cut))

module _ (opening : List Alert) (old new : CursorView Alert Call OpenLane) (was is : Option (List Alert)) (stored : ℕ) (held : IsHeld opening old was stored) where
  -- where the log has shown an alert, memory needn't have the opening
  pub may_go : (alerts : List Alert) → cast.shown_items new ≡ cast.shown_items old ++ alerts → 1 ≤ length alerts → IsHeld opening new is stored
  may_go alerts took some = record {
    there = λ none. absurd (let no : length (cast.shown_items old ++ alerts) ≡ 0 = ap length (sym took ∙ none) in let sum = length-append (cast.shown_items old) alerts in omega arith);
    counted = held.counted;
    few = held.few;
  }

  still_held : is ≡ was → cast.shown_items new ≡ cast.shown_items old → IsHeld opening new is stored
  still_held same took = record { there = λ none. same ∙ held.there (sym took ∙ none); counted = held.counted; few = held.few }

  -- the opening goes only with a move that shows an alert of the log
  pub held_after : (moved : Moved) → Moves old new moved → LetsGo moved was is → IsHeld opening new is stored
  held_after moved.One item lets = may_go (item.there.0 ∷ []) (item.taken item.there.0 item.there.1) (omega arith)
  held_after moved.Pending pending lets = still_held lets pending.taken
  held_after moved.Closed closed lets = still_held lets closed.taken
  held_after moved.Cut cut lets = still_held lets cut.taken

-- what is lent after an advance is what the call shows
pub shows : (old new : SubscriptionView) (given : Advance) (answer : Step) → Advances old given new → IsShown new given answer → Shows old answer new
shows old new advance.Opened (step.Item alert) moved is = opened_one old new alert.now moved.2 moved.1 moved.3 is
shows old new advance.Logged (step.Item alert) moved is = shown_one old new alert.now moved is
shows old new advance.Pending answer moved is = subst (λ (a : Step). Shows old a new) (sym is) moved
shows old new advance.Closed answer moved is = subst (λ (a : Step). Shows old a new) (sym is) moved
shows old new advance.Cut answer moved is = subst (λ (a : Step). Shows old a new) (sym is) moved
shows old new advance.Opened step.Pending moved is = absurd is
shows old new advance.Opened step.Closed moved is = absurd is
shows old new advance.Opened step.Cut moved is = absurd is
shows old new advance.Logged step.Pending moved is = absurd is
shows old new advance.Logged step.Closed moved is = absurd is
shows old new advance.Logged step.Cut moved is = absurd is

-- the same of what a pass knows
pub shows_past : (noted : List Batch) (new : SubscriptionView) (given : Advance) (answer : Step) → AdvancesPast noted new given → IsShown new given answer → ShowsPast noted answer new
shows_past noted new advance.Opened (step.Item alert) past is = record {}
shows_past noted new advance.Logged (step.Item alert) past is = record {}
shows_past noted new advance.Pending answer past is = subst (λ (a : Step). ShowsPast noted a new) (sym is) past
shows_past noted new advance.Closed answer past is = subst (λ (a : Step). ShowsPast noted a new) (sym is) (record {})
shows_past noted new advance.Cut answer past is = subst (λ (a : Step). ShowsPast noted a new) (sym is) (record {})
shows_past noted new advance.Opened step.Pending past is = absurd is
shows_past noted new advance.Opened step.Closed past is = absurd is
shows_past noted new advance.Opened step.Cut past is = absurd is
shows_past noted new advance.Logged step.Pending past is = absurd is
shows_past noted new advance.Logged step.Closed past is = absurd is
shows_past noted new advance.Logged step.Cut past is = absurd is
