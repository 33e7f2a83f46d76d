-- A subscription after the loan of an alert. `next` lends `&`s alone, so the subscription is then as the call
-- left it: this is Rattle's `follows_so`, for a result through which nothing is written.
use Rattle.std.specs.Prelude.{⊤, []}
use Rattle.std.specs.Borrow.{Fml, MutBor, RattleType, follows_so}
use Rattle.std.specs.declared.sync.ledger.Ledger.{Ghosts as LedgerGhosts}
use mathlib.Core.Option.{none}
use mir.Syntax.{named}
use Rattle.am_cast.specs.declared.feed.Feed.{Ghosts}
use Rattle.am_provider.specs.contracts.subscription.Subscription.{the_row}
use Rattle.am_provider.specs.Subscriptions.{SubscriptionView}

module _ (N : RattleType) (feed : Ghosts N.Denot) (ledger : LedgerGhosts N.Denot) where
  -- the type of a subscription whose reference is the first of the call's lifetimes
  abbrev pub lender : RattleType
  lender = the_row (record { mir = named 1; lft = [] }) N feed ledger

  -- once what the call lent is given back, this holds of the subscription
  abbrev pub AfterTheLoan : MutBor SubscriptionView → (SubscriptionView → Type 0) → Fml
  AfterTheLoan subscription Holds = follows_so lender lender subscription.ghost_name none (λ _ _. ⊤) Holds
