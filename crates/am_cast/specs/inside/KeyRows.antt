-- Keys that came home, and wait in rows for the others of their segment. This project's own.
use Rattle.std.specs.Prelude.{◌≡◌, ◌≢◌, ℕ, ◌%◌, ◌<◌, nat_eq, List, [], ◌∷◌, ◌++◌, length, Option, Some, None}
use Rattle.std.specs.Prelude.{◌-◌, cond, refl, slice_index_or, ⊤}
use Rattle.std.specs.Coded.{Coded, code_by, coded×, coded_list, coded_ℕ}
use Rattle.am_segment.specs.Segments.{KeyView, coded_key, AreAllKeys, MayJoin}
use Rattle.am_cast.specs.declared.limits.TheConstants.{LANES}

-- the keys of one place that are home
pub record RowView (X : Type 0) : Type 0 where
  pub place : ℕ
  pub keys : List (KeyView X)

-- the rows of the places with one remainder, and for how many rows more there is memory
pub record BucketView (X : Type 0) : Type 0 where
  pub rows : List (RowView X)
  pub room : ℕ

module _ {X : Type 0} where
  -- how a row's view is stored: as the tuple of its fields
  abbrev pub coded_row : Coded X → Coded (RowView X)
  coded_row code =
      code_by (ℕ × List (KeyView X)) (coded× coded_ℕ (coded_list (coded_key code)))
      (λ r. (r.place, r.keys))
      (λ p. record { place = p.0; keys = p.1 })
      (λ _. refl)

  -- how a bucket's view is stored: as the tuple of its fields
  abbrev pub coded_bucket : Coded X → Coded (BucketView X)
  coded_bucket code =
      code_by (List (RowView X) × ℕ) (coded× (coded_list (coded_row code)) coded_ℕ)
      (λ b. (b.rows, b.room))
      (λ p. record { rows = p.0; room = p.1 })
      (λ _. refl)

  -- the keys of the first row that is the place's
  abbrev pub find_row : ℕ → List (RowView X) → Option (List (KeyView X))
  find_row place [] = None
  find_row place (r ∷ rs) = cond (nat_eq r.place place) (Some r.keys) (find_row place rs)

  -- no row is the place's
  abbrev pub HasNoRow : ℕ → List (RowView X) → Type 0
  HasNoRow place [] = ⊤
  HasNoRow place (r ∷ rs) = (r.place ≢ place) × HasNoRow place rs

  -- no two rows are one place's
  abbrev pub AreApart : List (RowView X) → Type 0
  AreApart [] = ⊤
  AreApart (r ∷ rs) = HasNoRow r.place rs × AreApart rs

  -- a place's row may take the key, as one of several or as the last of all
  abbrev pub MayTake : List (KeyView X) → KeyView X → Type 0
  MayTake keys key = MayJoin keys key × (length keys < LANES)
      × (length keys ≡ LANES - 1 → AreAllKeys (keys ++ key ∷ []))

  -- a place's row with a key more: it ends with the last of all
  abbrev pub row_with : List (KeyView X) → KeyView X → Option (List (KeyView X))
  row_with keys key = cond (nat_eq (length keys) (LANES - 1)) None (Some (keys ++ key ∷ []))

  -- the row at the index is the place's
  abbrev pub IsRowOf : ℕ → List (RowView X) → ℕ → Type 0
  IsRowOf place rows k = (k < length rows) × ((r : RowView X) × (r ≡ slice_index_or rows k r)
      × (r.place ≡ place))

  -- each row's place has the remainder
  abbrev pub HaveRemainder : ℕ → ℕ → List (RowView X) → Type 0
  HaveRemainder places n [] = ⊤
  HaveRemainder places n (r ∷ rs) = (r.place % places ≡ n) × HaveRemainder places n rs

  -- a bucket without rows or memory
  abbrev pub no_bucket : BucketView X
  no_bucket = record { rows = []; room = 0 }

  -- the bucket that has the place's row
  abbrev pub bucket_of : List (BucketView X) → ℕ → BucketView X
  bucket_of buckets place = slice_index_or buckets (place % length buckets) no_bucket

  -- the keys of a place that are home and wait for others, if there is such a row
  abbrev pub row_at : List (BucketView X) → ℕ → Option (List (KeyView X))
  row_at buckets place = find_row place (bucket_of buckets place).rows

  -- each row is in the bucket of its place, and each place has one at most
  pub record AreSorted (buckets : List (BucketView X)) : Type 0 where
    pub some : 0 < length buckets
    pub each : (n : ℕ) → n < length buckets
        → HaveRemainder (length buckets) n (slice_index_or buckets n no_bucket).rows
        × AreApart (slice_index_or buckets n no_bucket).rows
