-- Which keys are out, and how the rows of keys agree with what the writer knows.
use Rattle.std.specs.Prelude.{◌≡◌, ℕ, zero, suc, ◌+◌, ◌<◌, ◌≤◌, nat_eq, nat_le, nat_lt, ◌&&◌, ◌||◌, List}
use Rattle.std.specs.Prelude.{length, count_by, Option, Some, None, Bool, false}
use Rattle.std.specs.List.{All}
use mathlib.Core.Option.{some}
use lib.ListN.{get_elem?}
use Rattle.am_segment.specs.Segments.{KeyView}
use Rattle.am_cast.specs.declared.limits.TheConstants.{LANES}
use Rattle.am_cast.specs.declared.batch_view.BatchView.{BatchView}
use Rattle.am_cast.specs.declared.views.Account.{Account}
use Rattle.am_cast.specs.declared.views.WriterView.{WriterView}
use Rattle.am_cast.specs.Rule.{bit, live}
use Rattle.am_cast.specs.Seats.{account_of}
use Rattle.am_cast.specs.Keys.{key_of}
use Rattle.am_cast.specs.inside.KeyRows.{BucketView, row_at}

-- whether the lane's key of the place is out: in its slot, or in the cursor's hand
abbrev pub is_out : {K A : Type 0} → Account K A → ℕ → Bool
is_out b i = (nat_le b.cleared i && nat_lt i b.stop) || (b.away && nat_eq i b.known)

-- the lane gets a key of the next place
abbrev pub is_live : {K A : Type 0} → Account K A → Bool
is_live b = nat_eq b.stand live

-- how many of the lanes below a number have their key out
abbrev pub outs : (ℕ → Bool) → ℕ → ℕ
outs out zero = 0
outs out (suc n) = outs out n + bit (out n)

module _ {T P : Type 0} where
  -- the keys of a batch of those lanes below n that haven't theirs out, each once
  pub record Gathered (x : BatchView T P) (out : ℕ → Bool) (n : ℕ) (keys : List (KeyView T)) : Type 0 where
    pub each : All (λ k. k ≡ key_of x k.number) keys
    pub below : (l : ℕ) → l < n → count_by (λ k. nat_eq k.number l) keys + bit (out l) ≡ 1
    pub above : (l : ℕ) → n ≤ l → count_by (λ k. nat_eq k.number l) keys ≡ 0
    pub many : length keys + outs out n ≡ n

  module _ {A : Type 0} where
    -- the row of the place has its keys that aren't out, and is there as long as one is out
    abbrev pub FitsAt : WriterView (BatchView T P) (KeyView T) A → ℕ → Option (List (KeyView T)) → Type 0
    FitsAt q i None = (l : ℕ) → l < LANES → is_out (account_of q l) i ≡ false
    FitsAt q i (Some keys) = (x : BatchView T P) × (get_elem? q.tail.log i ≡ some x)
        × Gathered x (λ l. is_out (account_of q l) i) LANES keys × (length keys < LANES)

    -- the rows have each place's keys that aren't out
    abbrev pub RowsFit : WriterView (BatchView T P) (KeyView T) A → List (BucketView T) → Type 0
    RowsFit q rows = (i : ℕ) → FitsAt q i (row_at rows i)
