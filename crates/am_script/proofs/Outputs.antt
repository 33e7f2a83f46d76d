-- One write after another.
use Rattle.std.proofs.Common.{ℕ, List, [], ◌++◌, Option, Some, None, ap, sym, ◌∙◌, append_assoc, append-nil}
use Rattle.std.specs.Io.KnownBytes.{Appends, Keeps}

pub appends_more : (old mid new : Option (List ℕ)) (front more : List ℕ) → Appends old mid front → Appends mid new more → Appends old new (front ++ more)
appends_more None mid new front more begun added = tt
appends_more (Some xs) None new front more begun added = absurd begun
appends_more (Some xs) (Some ys) None front more begun added = added
appends_more (Some xs) (Some ys) (Some zs) front more begun added = added ∙ (ap (λ (bytes : List ℕ). bytes ++ more) begun ∙ append_assoc xs front more)

pub appends_kept : (old mid new : Option (List ℕ)) (front : List ℕ) → Appends old mid front → Keeps mid new → Appends old new front
appends_kept None mid new front begun kept = tt
appends_kept (Some xs) None new front begun kept = absurd begun
appends_kept (Some xs) (Some ys) None front begun kept = kept
appends_kept (Some xs) (Some ys) (Some zs) front begun kept = kept ∙ begun

pub appends_none : (old : Option (List ℕ)) → Appends old old []
appends_none None = tt
appends_none (Some xs) = sym (append-nil xs)
