-- How a post of a body, and a put of alerts that carry their own moments, are answered.
use Rattle.std.specs.Prelude.{◌≡◌, ℕ, List, Result, Ok, Err}
use Rattle.am_posts.specs.Bodies.{IsPostOfBody}
use Rattle.am_posts.specs.FromParts.{IsPostOfAlerts}
use Rattle.am_alert.specs.declared.alert.Alert.{Alert}
use Rattle.am_posts.specs.declared.body.Body.{Body}
use Rattle.am_alert.specs.declared.post.Post.{Post}
use Rattle.am_alert.specs.declared.post.PostFault.{PostFault}
use Rattle.am_cast.specs.Posters.{PassView}
use Rattle.am_history.specs.Fronts.{FrontView}
use Rattle.am_store.specs.declared.call.Call.{Call}
use Rattle.am_provider.specs.Callers.{SeesCall}
use Rattle.am_provider.specs.Headline.{AnswersPost}
use Rattle.am_provider.specs.Histories.{EntryView}
use Rattle.am_provider.specs.Posts.{AddsOwn}
use Rattle.am_provider.specs.declared.answers.Policy.{Policy}
use Rattle.am_provider.specs.declared.answers.Posted.{Posted}
use Rattle.am_store.specs.declared.faults.BodyFault.{BodyFault}
use Rattle.am_store.specs.declared.faults.BodyFault.TheVariants as refused

-- how a post is answered whose reading answers this: one that isn't read is refused for its fault before the
-- history is looked at; another is posted, and then the pass owns its place
abbrev pub AnswersRead : (Result Post PostFault → Type 0) → Policy → ℕ → ℕ → PassView Alert Call
    → PassView Alert Call → FrontView EntryView → FrontView EntryView → Result Posted BodyFault → Type 0
AnswersRead is_read policy places now was is saw sees (Ok posted) =
    (post : Post) × is_read (Ok post)
    × SeesCall saw sees (AnswersPost policy places now post (Ok posted))
    × AddsOwn was now post.valid posted.place is
AnswersRead is_read policy places now was is saw sees (Err (refused.Put fault)) =
    (post : Post) × is_read (Ok post)
    × SeesCall saw sees (AnswersPost policy places now post (Err fault)) × (is ≡ was)
AnswersRead is_read policy places now was is saw sees (Err (refused.Unread fault)) =
    is_read (Err fault) × (is ≡ was) × (sees ≡ saw)

-- how a post of a body is answered
abbrev pub AnswersPosted : Policy → ℕ → ℕ → ℕ → Body → PassView Alert Call → PassView Alert Call
    → FrontView EntryView → FrontView EntryView → Result Posted BodyFault → Type 0
AnswersPosted policy places now timeout body = AnswersRead (IsPostOfBody now timeout body) policy places now

-- how a put of alerts is answered
abbrev pub AnswersPut : Policy → ℕ → ℕ → List Alert → PassView Alert Call → PassView Alert Call
    → FrontView EntryView → FrontView EntryView → Result Posted BodyFault → Type 0
AnswersPut policy places now alerts = AnswersRead (IsPostOfAlerts alerts) policy places now
