-- A consumer, as contracts see it: what takes the alerts that a subscription shows.
use Rattle.std.specs.Prelude.{Option}
use Rattle.am_routes.specs.Groups.{DispatcherView}
use Rattle.am_inhibit.specs.Inhibitors.{InhibitorView, having_looked}

-- its dispatcher and its inhibitor, if it has them; no caller sees what the inhibitor examined for an answer
pub record ConsumerView : Type 0 where
  pub dispatcher : Option DispatcherView
  pub inhibitor : Option InhibitorView

-- an inhibitor without what it examined for its last answer
abbrev pub unasked : InhibitorView → InhibitorView
unasked inhibitor = having_looked 0 inhibitor
