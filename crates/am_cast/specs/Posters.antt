-- What a pass knows.
use Rattle.std.specs.Prelude.{◌≡◌, ℕ, List, [], ◌∷◌, ◌++◌, length}
use mathlib.Core.List.{IsPrefix}
use Rattle.am_segment.specs.Segments.{KeyView}
use Rattle.am_cast.specs.declared.batch_view.BatchView.{BatchView}
use Rattle.am_cast.specs.declared.views.Own.{Own}
use Rattle.am_cast.specs.declared.views.View.{View}
use Rattle.am_cast.specs.declared.views.WriterView.{WriterView}
use Rattle.am_cast.specs.Changes.{AreInLog, longer_tail, own_at}
use Rattle.am_cast.specs.Keys.{batch_items}
use Rattle.am_cast.specs.Refusals.{IsOpen}

-- what contracts see of a pass
pub record PassView (T P : Type 0) : Type 0 where
  -- the log when it was noted last
  pub noted : List (BatchView T P)
  -- the places that it owns: those that it posted, and those of passes that were merged into it
  pub own : List (Own (BatchView T P))

-- what contracts see of a sender: what its writer and its pass know
pub record SenderView (T P A : Type 0) : Type 0 where
  pub writer : WriterView (BatchView T P) (KeyView T) A
  pub pass : PassView T P

-- a pass knows the places that it owns, and no less than before
abbrev pub KnowsOwn : {T P : Type 0} → PassView T P → PassView T P → Type 0
KnowsOwn was is = AreInLog is.own is.noted × IsPrefix was.noted is.noted

module _ {T P A : Type 0} where
  -- the pass that a seat with this view is
  abbrev pub pass_view : View (BatchView T P) (KeyView T) A → PassView T P
  pass_view w = record { noted = w.noted; own = w.own }

  -- the log has a place more, with a batch of these items and this post, and the pass owns it
  abbrev pub IsPosted : List T → P → WriterView (BatchView T P) (KeyView T) A
      → WriterView (BatchView T P) (KeyView T) A → PassView T P → PassView T P → ℕ → Type 0
  IsPosted items post q q' pass pass' place = (place ≡ length q.tail.log) × IsOpen q × ((x : BatchView T P)
      × (x.post ≡ post) × (batch_items x ≡ items) × (q'.tail ≡ longer_tail x q.tail)
      × (pass'.own ≡ pass.own ++ own_at place x ∷ []))
