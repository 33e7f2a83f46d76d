-- What is done to the subscription of a name.
use Rattle.std.proofs.Common.{◌≡◌, ◌+◌, ◌<◌, ℕ, Bool, true, false, cond, List, [], ◌∷◌, ◌++◌, Some, None, Ok, refl, ap, sym, subst, ◌∙◌, length, get_or, slice_get, slice_set, arith}
use Rattle.std.proofs.Math.Dec.{ltb}
use Rattle.std.proofs.lemmas.Bool.{le-ltb, lt-ltb}
use Rattle.std.specs.List.{position, position_or_len}
use Rattle.std.proofs.lemmas.List.{get_or_default}
use Rattle.std.proofs.lemmas.List.Sums.{position_or_len_is}
use mathlib.Core.Logic.{dite}
use native.Mathlib.Decide.{ℕ_discrete}
use Rattle.std.proofs.lemmas.List.{length-set}
use Rattle.std.proofs.lemmas.List.Quantifiers.{position-Some}
use Rattle.std.proofs.lemmas.Option.{slice_get-get_or}
use Rattle.std.specs.Str.{bytes_eq}
use Rattle.am_alert.specs.declared.alert.Alert.{Alert}
use Rattle.am_store.specs.declared.call.Call.{Call}
use Rattle.am_cast.specs.Posters.{PassView}
use Rattle.am_history.specs.Fronts.{FrontView}
use Rattle.am_provider.specs.Histories.{EntryView}
use Rattle.am_provider.specs.Callers.{SeesCall}
use Rattle.am_provider.specs.Headline.{AnswersSubscribe}
use Rattle.am_config.specs.declared.config.Config.{Config}
use Rattle.am_script.specs.declared.command.Command.{Command}
use Rattle.am_script.specs.declared.command.Command.TheVariants.{Subscribe}
use Rattle.am_script.specs.declared.command.Verb.{Verb}
use Rattle.am_script.specs.declared.kind.Kind.{Kind}
use Rattle.am_script.specs.declared.kind.Kind.TheVariants.{Plain, Dispatch, Inhibit, Notify}
use Rattle.am_answers.specs.Consuming.{HasTaken, fresh_consumer}
use Rattle.am_runner.specs.Reading.{OpenView}
use Rattle.am_runner.specs.Sessions.{Setting, SessionView, Does, subscribed, swept, forgot, SweepsNamed, sweep_command, OnNamed, one_named, none_named, index_named}
use Rattle.am_answers.specs.declared.answer.Answer.{Answer}
use Rattle.am_answers.specs.declared.answer.Answer.TheVariants.{Subscribed}
use Rattle.am_answers.specs.declared.consumer.Half.{Half}
use Rattle.am_answers.specs.declared.consumer.Half.TheVariants as half

-- none of the first so many passes, nor does the next
pub none_more : {A : Type 0} (p : A → Bool) (xs : List A) (i : ℕ) (one : A) → ((k : ℕ) (d : A) → k < i → p (get_or xs k d) ≡ false) → i < length xs → one ≡ get_or xs i one → p one ≡ false
    → (k : ℕ) (d : A) → k < i + 1 → p (get_or xs k d) ≡ false
none_more p xs i one none inside is not_it k d below =
    dite (ℕ_discrete k i)
    (λ same. ap p (ap (λ (n : ℕ). get_or xs n d) same ∙ (get_or_default xs i d one inside ∙ sym is)) ∙ not_it)
    (λ other. none k d (omega (arith, below, other)))

-- the one after them does: it is the first
pub first_is : {A : Type 0} (p : A → Bool) (xs : List A) (i : ℕ) (one : A) → ((k : ℕ) (d : A) → k < i → p (get_or xs k d) ≡ false) → i < length xs → one ≡ get_or xs i one → p one ≡ true → Some i ≡ position p xs
first_is p xs i one none inside is passes =
    let at : position_or_len p xs ≡ i = position_or_len_is p xs i one (omega (arith, inside)) (λ k below. none k one below) (λ _. ap p (sym is) ∙ passes) in
    subst (λ (n : ℕ). Some i ≡ cond (ltb n (length xs)) (Some n) None) (sym at) (ap (λ (b : Bool). cond b (Some i) None) (sym (lt-ltb i (length xs) inside)))

-- none of all passes
pub none_is : {A : Type 0} (p : A → Bool) (xs : List A) (i : ℕ) → ((k : ℕ) (d : A) → k < i → p (get_or xs k d) ≡ false) → i ≡ length xs → None ≡ position p xs
none_is p [] i none whole = refl
none_is p (first ∷ xs) i none whole =
    let all = first ∷ xs in
    let at : position_or_len p all ≡ length all = position_or_len_is p all (length all) first (omega arith) (λ k below. none k first (omega (arith, below, whole))) (λ inside. absurd (omega (arith, inside))) in
    subst (λ (n : ℕ). None ≡ cond (ltb n (length all)) (Some n) None) (sym at) (ap (λ (b : Bool). cond b (Some (length all)) None) (sym (le-ltb (length all) (length all) (omega arith))))

-- the subscription of a name, which is lent to be changed
pub lent : (name : List ℕ) (opened : List OpenView) (index : ℕ) (other : OpenView) → index_named name opened ≡ Some index → slice_get opened index ≡ Some (get_or opened index other)
lent name opened index other here = slice_get-get_or opened index other (position-Some (λ (each : OpenView). bytes_eq each.name name) opened index other here).0

pub on_index : (name : List ℕ) (word : Verb) (does : OpenView → List Answer → OpenView → Type 0) (opened : List OpenView) (index : ℕ) (other after : OpenView) (answers : List Answer)
    → index_named name opened ≡ Some index → does (get_or opened index other) answers after → OnNamed name word does opened answers (slice_set opened index after)
on_index name word does opened index other after answers here done =
    one_named here (lent name opened index other here) done

pub fresh_took : (config : Config) (kind : Kind) → HasTaken [] (fresh_consumer config kind)
fresh_took config Plain = (tt, tt)
fresh_took config Dispatch = (([], refl, refl), tt)
fresh_took config Inhibit = (tt, ([], refl, refl))
fresh_took config Notify = (([], refl, refl), ([], refl, refl))

pub subscribed_so : (config : Config) (setting : Setting) (old new : SessionView) (name : List ℕ) (kind : Kind) (made : OpenView) (lane opening : ℕ)
    → made.name ≡ name → SeesCall old.front new.front (AnswersSubscribe (Ok made.subscription)) → made.consumer ≡ fresh_consumer config kind
    → lane ≡ made.subscription.cursor.lane.number → opening ≡ length made.subscription.opening
    → new ≡ record old { front = new.front; opened = old.opened ++ made ∷ [] }
    → Does config setting old (Subscribe name kind) (Subscribed lane opening ∷ []) new
subscribed_so config setting old new name kind made lane opening named sees fresh on_lane counted is =
    let then : SessionView = record old { front = new.front; opened = old.opened ++ made ∷ [] } in
    subst (λ (session : SessionView). Does config setting old (Subscribe name kind) (Subscribed lane opening ∷ []) session) (sym is)
    (subst (λ (n : ℕ). Does config setting old (Subscribe name kind) (Subscribed n opening ∷ []) then) (sym on_lane)
    (subst (λ (n : ℕ). Does config setting old (Subscribe name kind) (Subscribed made.subscription.cursor.lane.number n ∷ []) then) (sym counted)
    (subscribed made named sees fresh)))

-- the command that sweeps a half of a subscription's consumer
pub swept_so : (config : Config) (setting : Setting) (old : SessionView) (which : Half) (name : List ℕ) (at : ℕ) (answers : List Answer) (opened : List OpenView)
    → SweepsNamed which name at old.opened answers opened → Does config setting old (sweep_command which name at) answers (record old { opened = opened })
swept_so config setting old half.Dispatcher name at answers opened it = swept it
swept_so config setting old half.Inhibitor name at answers opened it = forgot it

-- as many subscriptions are there as before
pub as_many : (name : List ℕ) (word : Verb) (does : OpenView → List Answer → OpenView → Type 0) (old new : List OpenView) (answers : List Answer) → OnNamed name word does old answers new → length new ≡ length old
as_many name word does old new answers (one_named {index = index} {after = after} here found done) = length-set old index after
as_many name word does old new answers (none_named here) = refl

-- a call that the provider answered, of the session as its parts have it
pub on_front : (config : Config) (setting : Setting) (command : Command) (answers : List Answer) (old inside : SessionView) (pass : PassView Alert Call) (front : FrontView EntryView)
    → inside ≡ old → pass ≡ inside.pass → Does config setting inside command answers (record inside { front = front })
    → Does config setting old command answers (record { pass = pass; front = front; opened = inside.opened })
on_front config setting command answers old inside pass front is passes does =
    subst (λ (before : SessionView). Does config setting before command answers (record { pass = pass; front = front; opened = inside.opened })) is
    (subst (λ (p : PassView Alert Call). Does config setting inside command answers (record { pass = p; front = front; opened = inside.opened })) (sym passes) does)
