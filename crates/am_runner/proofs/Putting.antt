-- What was read is posted.
use Rattle.std.proofs.Common.{◌≡◌, ℕ, Result, Ok, Err, sym, subst}
use Rattle.am_alert.specs.declared.post.Post.{Post}
use Rattle.am_alert.specs.declared.post.PostFault.{PostFault}
use Rattle.am_cast.specs.Posters.{PassView}
use Rattle.am_alert.specs.declared.alert.Alert.{Alert}
use Rattle.am_history.specs.Fronts.{FrontView}
use Rattle.am_store.specs.declared.call.Call.{Call}
use Rattle.am_provider.specs.Histories.{EntryView}
use Rattle.am_provider.specs.declared.answers.Policy.{Policy}
use Rattle.am_provider.specs.declared.answers.Posted.{Posted}
use Rattle.am_store.specs.declared.faults.BodyFault.{BodyFault}
use Rattle.am_store.specs.declared.faults.BodyFault.TheVariants as refused
use Rattle.am_runner.specs.Putting.{AnswersRead}

pub read_as : (is_read : Result Post PostFault → Type 0) (read : Result Post PostFault) → is_read read
    → (policy : Policy) (places now : ℕ) (was is : PassView Alert Call) (saw sees : FrontView EntryView) (result : Result Posted BodyFault)
    → AnswersRead (λ answer. answer ≡ read) policy places now was is saw sees result
    → AnswersRead is_read policy places now was is saw sees result
read_as is_read read h policy places now was is saw sees (Ok posted) a = (a.0, subst is_read (sym a.1) h, a.2, a.3)
read_as is_read read h policy places now was is saw sees (Err (refused.Put fault)) a = (a.0, subst is_read (sym a.1) h, a.2, a.3)
read_as is_read read h policy places now was is saw sees (Err (refused.Unread fault)) a = (subst is_read (sym a.0) h, a.1, a.2)
