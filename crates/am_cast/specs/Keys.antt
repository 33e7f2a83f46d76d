-- The items of a batch, and its keys.
use Rattle.std.specs.Prelude.{ℕ, List, [], ◌∷◌, ◌++◌}
use Rattle.am_segment.specs.Segments.{KeyView, key_with}
use Rattle.am_cast.specs.declared.limits.TheConstants.{LANES}
use Rattle.am_cast.specs.declared.batch_view.BatchView.{BatchView}

module _ {T P : Type 0} where
  -- the items of a batch, of which there is at least one
  abbrev pub batch_items : BatchView T P → List T
  batch_items x = x.first ∷ x.others

  -- the items of some batches, one after another
  abbrev pub all_items : List (BatchView T P) → List T
  all_items [] = []
  all_items (x ∷ xs) = batch_items x ++ all_items xs

  -- the key of a batch that a lane gets
  abbrev pub key_of : BatchView T P → ℕ → KeyView T
  key_of x lane = key_with x.segment LANES (batch_items x) lane
