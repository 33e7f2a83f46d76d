-- What a read says that ends with Pending.
use Rattle.std.proofs.Common.{◌≡◌, ◌∙◌, ℕ, Bool, true, false, List, [], ◌∷◌, ◌++◌, length, length-append, refl, sym, ap, subst, arith}
use Rattle.std.proofs.lemmas.Bool.{false≢true}
use Rattle.std.proofs.lemmas.List.{same_from_push}
use Rattle.am_provider.specs.Showings.{Shows}
use Rattle.am_provider.specs.declared.answers.Step.TheVariants as step
use Rattle.am_script.specs.declared.command.Verb.TheVariants as verb
use Rattle.am_runner.specs.Reading.{EndsPending, NextIs, OpenView, ReadsOne, takes, misses, ends, ReadsSome, nothing, one_more}
use Rattle.am_answers.specs.declared.answer.Answer.{Answer}
use Rattle.am_answers.specs.declared.answer.Answer.TheVariants as answer

-- the last of answers that end with Pending is that
pub last_pending : (before all : List Answer) (last : Answer) → all ≡ before ++ last ∷ [] → EndsPending all → last ≡ answer.Pending
last_pending before all last are pending = (same_from_push before pending.0 last answer.Pending (sym are ∙ pending.1)).1

-- a read of an alert leaves what was stored when the subscription came, and where it began
one_stays : (old new : OpenView) (before answers : List Answer) (goes_on : Bool) → goes_on ≡ true → ReadsOne old before goes_on answers new
    → (new.subscription.opening ≡ old.subscription.opening) × (new.subscription.cursor.lane.start ≡ old.subscription.cursor.lane.start)
one_stays old new before answers goes_on more (takes alert shows beside kept) = (shows.opening, shows.on.3)
one_stays old new before answers goes_on more (misses alert shows beside kept) = (shows.opening, shows.on.3)
one_stays old new before answers goes_on more (ends last none next same kept) = absurd (false≢true more)

pub read_stays : (old new : OpenView) (count : ℕ) (answers : List Answer) → ReadsSome old count answers new
    → (new.subscription.opening ≡ old.subscription.opening) × (new.subscription.cursor.lane.start ≡ old.subscription.cursor.lane.start)
read_stays old new count answers nothing = (refl, refl)
read_stays old new count answers (one_more {count = less} {before = before} {mid = mid} reads one) =
    let first = read_stays old mid less before reads in
    let last = one_stays mid new before answers true refl one in
    (last.0 ∙ first.0, last.1 ∙ first.1)

-- alerts alone don't end with Pending
one_more_pending : (old new : OpenView) (before answers : List Answer) (goes_on : Bool) → goes_on ≡ true → ReadsOne old before goes_on answers new → EndsPending answers → ⊥
one_more_pending old new before answers goes_on more (takes alert shows beside kept) pending =
    let no : answer.Item alert ≡ answer.Pending = last_pending before _ (answer.Item alert) refl pending in cc
one_more_pending old new before answers goes_on more (misses alert shows beside kept) pending =
    let no : answer.OutOfMemory verb.Take ≡ answer.Pending = last_pending (before ++ answer.Item alert ∷ []) _ (answer.OutOfMemory verb.Take) refl pending in cc
one_more_pending old new before answers goes_on more (ends last none next same kept) pending = absurd (false≢true more)

pub never_pending : (old new : OpenView) (count : ℕ) (answers : List Answer) → ReadsSome old count answers new → EndsPending answers → ⊥
never_pending old new count answers nothing pending = omega (arith, ap length pending.1, length-append pending.0 (answer.Pending ∷ []))
never_pending old new count answers (one_more {before = before} {mid = mid} reads one) pending = one_more_pending mid new before answers true refl one pending

-- a read that ended with Pending was shown that
pub ended_pending : (old new : OpenView) (before answers : List Answer) (goes_on : Bool) → goes_on ≡ false → ReadsOne old before goes_on answers new → EndsPending answers → Shows old.subscription step.Pending new.subscription
ended_pending old new before answers goes_on over (takes alert shows beside kept) pending = absurd (false≢true (sym over))
ended_pending old new before answers goes_on over (misses alert shows beside kept) pending = absurd (false≢true (sym over))
ended_pending old new before answers goes_on over (ends last none next same kept) pending =
    subst (λ (one : Answer). NextIs old.subscription one new.subscription) (last_pending before _ last refl pending) next
