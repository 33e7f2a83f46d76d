-- What a reader that was given back had shown, and what it was owed.
use Rattle.std.specs.Prelude.{◌≡◌, ℕ, true, List, [], ◌∷◌, ◌++◌, Some, length, codes}
use Rattle.std.specs.List.{flat_map}
use Rattle.am_history.specs.Fronts.{FrontView, made_at}
use Rattle.am_history.specs.declared.views.Made.{Made}
use Rattle.am_alert.specs.declared.alert.Alert.{Alert}
use Rattle.am_alert.specs.Printing.{alert_text}
use Rattle.am_store.specs.Broadcast.{due, IsFront}
use Rattle.am_store.specs.Journal.{is_closed, IsOpenSubscription}
use Rattle.am_store.specs.declared.call.Call.TheVariants.{Left}
use Rattle.am_provider.specs.Histories.{EntryView, Accepted, whole}
use Rattle.am_provider.specs.declared.answers.Ended.{Ended}
pub use Rattle.am_provider.specs.Subscriptions.{taken}

-- a caller's last call gave a subscription back, which had shown these alerts: they begin what the history
-- before that call owed it, and are all of that if it answered `Closed`, which it does of a closed log alone
pub record ShowedItsDue (caller : FrontView EntryView) (ended : Ended) (alerts : List Alert) : Type 0 where
  pub before : List EntryView
  pub earlier : List (Made EntryView)
  pub lane : ℕ
  pub seen : caller.seen ≡ before ++ Accepted (Left lane) 0 (Some ended) ∷ []
  pub made : caller.made
      ≡ earlier ++ made_at (length before) (Accepted (Left lane) 0 (Some ended)) ∷ []
  pub subscribed : IsOpenSubscription (whole before) lane ended.at
  pub front : IsFront alerts (due (whole before) ended.at)
  pub complete : ended.closed ≡ true
      → (is_closed (whole before) ≡ true) × (alerts ≡ due (whole before) ended.at)

-- alerts as text, a line each
abbrev pub alert_lines : List Alert → List ℕ
alert_lines alerts = flat_map (λ alert. alert_text alert ++ codes "\n") alerts

-- a text is the lines of the alerts that a subscription had shown, as it was given back
abbrev pub PrintsItsDue : FrontView EntryView → Ended → List ℕ → Type 0
PrintsItsDue caller ended text =
    (alerts : List Alert) × ShowedItsDue caller ended alerts × (text ≡ alert_lines alerts)
