-- How much of the history a caller has seen, and what it added.
use Rattle.std.specs.Prelude.{◌≡◌, ℕ, ◌+◌, ◌⊎◌, List, [], ◌∷◌, ◌++◌, length, Result, Ok, Err}
use mathlib.Core.List.{IsPrefix}
use Rattle.am_alert.specs.declared.alert.Alert.{Alert}
use Rattle.am_alert.specs.declared.post.Post.{Post}
use Rattle.am_posts.specs.Posts.{IsPostOf}
use Rattle.am_history.specs.Fronts.{FrontView, made_at}
use Rattle.am_history.specs.declared.views.Made.{Made}
use Rattle.am_store.specs.declared.call.Call.{Call}
use Rattle.am_store.specs.Judging.{Filter, AreJudged}
use Rattle.am_cast.specs.Changes.{AreInLog}
use Rattle.am_cast.specs.Posters.{PassView}
use Rattle.am_provider.specs.declared.answers.Policy.{Policy}
use Rattle.am_provider.specs.declared.answers.Posted.{Posted}
use Rattle.am_provider.specs.declared.answers.PostedIf.{PostedIf}
use Rattle.am_store.specs.declared.faults.BodyFault.{BodyFault}
use Rattle.am_store.specs.declared.faults.BodyFault.TheVariants as refused
use Rattle.am_store.specs.declared.faults.PutFault.{PutFault}
use Rattle.am_provider.specs.Headline.{AnswersPost, IsPutRefusal}
use Rattle.am_provider.specs.Posts.{AddsOwn, WasAskedBefore}
use Rattle.am_provider.specs.Batches.{sent_in}
use Rattle.am_provider.specs.Histories.{EntryView, sent_by, stored_after}

-- entries that were made one after another, with their numbers
abbrev pub made_from : ℕ → List EntryView → List (Made EntryView)
made_from index [] = []
made_from index (entry ∷ entries) = made_at index entry ∷ made_from (index + 1) entries

-- a call's place in the one history: it was made when the entries were `before`, which begin with all that
-- its caller had seen; it added these, which are its caller's own; and its caller has seen all of them. In
-- this call, and once, the caller's front was shown all that there was: so `before` has every entry of the
-- calls that had returned when it began, and none of those that began when it had returned
pub record SeesCall (was is : FrontView EntryView) (Answers : List EntryView → List EntryView → Type 0)
    : Type 0 where
  pub before : List EntryView
  pub added : List EntryView
  pub known : IsPrefix was.seen before
  pub seen : is.seen ≡ before ++ added
  pub made : is.made ≡ was.made ++ made_from (length before) added
  pub same : is.seat ≡ was.seat
  pub looked : is.looks ≡ was.looks + 1
  pub answers : Answers before added

-- a caller and an onlooker are shown the same entries, of which both had seen a beginning; nothing is added
pub record SeesWhole (was is saw sees : FrontView EntryView) : Type 0 where
  pub entries : List EntryView
  pub known : IsPrefix was.seen entries × IsPrefix saw.seen entries
  pub caller : is ≡ record was { seen = entries; looks = was.looks + 1 }
  pub onlooker : sees ≡ record saw { seen = entries; looks = saw.looks + 1 }

-- how a post of a body is answered. A body that can't be read is refused for its fault before the history is
-- looked at. Another is posted, and then the pass owns its place with what was read
abbrev pub AnswersBody : Policy → ℕ → ℕ → ℕ → List ℕ → PassView Alert Call → PassView Alert Call
    → FrontView EntryView → FrontView EntryView → Result Posted BodyFault → Type 0
AnswersBody policy places now timeout body was is saw sees (Ok posted) =
    (post : Post) × IsPostOf now timeout body (Ok post)
    × SeesCall saw sees (AnswersPost policy places now post (Ok posted))
    × AddsOwn was now post.valid posted.place is
AnswersBody policy places now timeout body was is saw sees (Err (refused.Put fault)) =
    (post : Post) × IsPostOf now timeout body (Ok post)
    × SeesCall saw sees (AnswersPost policy places now post (Err fault)) × (is ≡ was)
AnswersBody policy places now timeout body was is saw sees (Err (refused.Unread fault)) =
    IsPostOf now timeout body (Err fault) × (is ≡ was) × (sees ≡ saw)

-- how a post of those alerts that a filter accepts is answered: each is judged as it would be stored after
-- the history (Alertmanager's `AlertStoreCallback`'s PreStore). It is refused before the filter was asked of
-- all, or as a post of those that it accepted. The filter is as its last question left it
abbrev pub AnswersPostIf : {F : Type 0} → Filter F → F → F → Policy → ℕ → ℕ → Post → PassView Alert Call
    → PassView Alert Call → FrontView EntryView → FrontView EntryView → Result PostedIf PutFault → Type 0
AnswersPostIf filter accepts last policy places now post was is saw sees (Ok done) =
    (kept : Post) × (kept.faults ≡ post.faults)
    × SeesCall saw sees (λ before added.
    AreJudged filter now last accepts 0 (stored_after before) post.valid kept.valid done.refused.items
    × AnswersPost policy places now kept (Ok done.posted) before added)
    × AddsOwn was now kept.valid done.posted.place is
AnswersPostIf filter accepts last policy places now post was is saw sees (Err fault) =
    SeesCall saw sees (λ before added.
    ((IsPutRefusal policy places 0 before fault
    × WasAskedBefore filter accepts last now (stored_after before) post.valid fault)
    ⊎ ((kept : List Alert) × (refused : List ℕ)
    × AreJudged filter now last accepts 0 (stored_after before) post.valid kept refused
    × IsPutRefusal policy places (length kept) before fault))
    × (added ≡ []))
    × (is ≡ was)

-- a pass, which owns what it did, knows all that was sent out of a front's history
pub record KnowsAllSent (was is : PassView Alert Call) (front : FrontView EntryView) : Type 0 where
  pub own : is.own ≡ was.own
  pub more : IsPrefix was.noted is.noted
  pub known : AreInLog is.own is.noted
  pub sent : sent_in is.noted ≡ sent_by front.seen

-- a caller that has posted nothing, seen nothing and added nothing
abbrev pub IsNewCaller : PassView Alert Call → FrontView EntryView → Type 0
IsNewCaller pass front =
    (pass ≡ record { noted = []; own = [] })
    × (front ≡ record { seen = []; made = []; parts = 1; seat = front.seat; looks = 0 })
