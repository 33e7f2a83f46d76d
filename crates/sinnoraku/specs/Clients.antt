-- What a client answers by a reader.
use Rattle.std.specs.Prelude.{List, Result, Ok, Err}
use Rattle.am_provider.specs.Headline.{AnswersSubscribe}
use Rattle.am_provider.specs.Histories.{EntryView}
use Rattle.am_provider.specs.Subscriptions.{SubscriptionView}
use Rattle.am_store.specs.declared.faults.SubFault.{SubFault}

-- a reader whose subscription is what a subscription answers, or why there is none
abbrev pub AnswersReader : {A : Type 0} → (A → SubscriptionView) → Result A SubFault → List EntryView
    → List EntryView → Type 0
AnswersReader subscription (Ok reader) before added =
    AnswersSubscribe (Ok (subscription reader)) before added
AnswersReader subscription (Err fault) before added = AnswersSubscribe (Err fault) before added
