-- The rows of keys that wait, and the places that are freed.
use Rattle.std.proofs.Common.{◌≡◌, ◌≢◌, ℕ, zero, suc, ◌<◌, inl, inr, length, sym, ap, ◌∙◌, subst, arith, Option, Some, None, Bool, true, false, refl, List}
use Rattle.std.proofs.lemmas.Bool.{false≢true}
use Rattle.am_cast.specs.declared.limits.TheConstants.{LANES}
use Rattle.am_cast.proofs.WriterSteps.{none_some}
use Rattle.am_segment.specs.Segments.{KeyView}
use Rattle.am_cast.specs.declared.batch_view.BatchView.{BatchView}
use Rattle.am_cast.specs.declared.views.Account.{Account}
use Rattle.am_cast.specs.declared.views.WriterView.{WriterView}
use Rattle.am_cast.specs.Rule.{bit}
use Rattle.am_cast.specs.Seats.{account_of}
use Rattle.am_cast.specs.Writers.{IsCalm, Calm}
use Rattle.am_cast.specs.Freed.{IsOut, IsGathered, IsFreedFor, AreHome, Keeps}
use Rattle.am_cast.specs.Keys.{key_of}
use Rattle.am_cast.specs.inside.KeyRows.{BucketView, row_at}
use Rattle.am_cast.specs.inside.Waiting.{is_out, outs, FitsAt, RowsFit}
use Rattle.am_cast.proofs.Shown.{freed_is_home, home_is_freed}
use Rattle.am_cast.proofs.Waiting.{is_out_tells, is_out_when, slotted, handed}
use Rattle.am_cast.proofs.Waiting as waiting

-- where some are out, one is
one_out : (out : ℕ → Bool) (n : ℕ) → 0 < outs out n → (l : ℕ) × (l < n) × (out l ≡ true)
one_out out zero h = absurd (omega arith)
one_out out (suc n) h = here (out n) (λ e. (n, omega arith, e)) (λ e. let t = one_out out n (let z : bit (out n) ≡ 0 = ap bit e in omega arith) in let small = t.1 in (t.0, omega arith, t.2))
  where
    here : {X : Type 0} (b : Bool) → (b ≡ true → X) → (b ≡ false → X) → X
    here true f g = f refl
    here false f g = g refl

module _ {K A : Type 0} where
  gathered : (n places : ℕ) (b : Account K A) → IsCalm n places b → IsGathered b
  gathered n places b c = record { low = c.low; live_is = λ e. (c.live_is e).0; rest_is = c.rest_is; away_is = λ e. (c.away_is e).0 }

  out_is : (b : Account K A) (i : ℕ) → IsOut b i → is_out b i ≡ true
  out_is b i z = grind (arith, is_out_when, slotted)

  is_out_of : (b : Account K A) (i : ℕ) → is_out b i ≡ true → IsOut b i
  is_out_of b i e = grind (arith, is_out_tells, slotted)

module _ {T P A : Type 0} where
  -- a place of the log with no row is freed
  pub no_row_is_freed : (q : WriterView (BatchView T P) (KeyView T) A) (rows : List (BucketView T)) (i : ℕ) → Calm q → RowsFit q rows → i < length q.tail.log → row_at rows i ≡ None → IsFreedFor q i
  no_row_is_freed q rows i calm fit inside none_there = grind (arith, home_is_freed, false≢true, out_is)

  -- and one with a row is not
  pub row_is_kept : (q : WriterView (BatchView T P) (KeyView T) A) (rows : List (BucketView T)) (i : ℕ) → Calm q → RowsFit q rows → row_at rows i ≢ None → IsFreedFor q i → ⊥
  row_is_kept q rows i calm fit there freed = go (row_at rows i) (fit i) there
    where
      go : (o : Option (List (KeyView T))) → FitsAt q i o → o ≢ None → ⊥
      go None f ne = ne refl
      go (Some keys) f ne =
          let many = f.2.many in let few = f.3 in let t = one_out (λ l. is_out (account_of q l) i) LANES (omega arith) in
          freed_is_home key_of q i t.0 t.1 (gathered (length q.tail.log) q.tail.places (account_of q t.0) (calm.1 t.0 t.1)) freed (is_out_of (account_of q t.0) i t.2)

  -- the keys of a row are home
  pub row_is_home : (q : WriterView (BatchView T P) (KeyView T) A) (rows : List (BucketView T)) (i : ℕ) (keys : List (KeyView T)) → Calm q → RowsFit q rows → row_at rows i ≡ Some keys → AreHome q i keys
  row_is_home q rows i keys calm fit there = let f = subst (FitsAt q i) there (fit i) in let x = f.0 in let g = f.2 in record {
    batch = x;
    there = f.1;
    each = g.each;
    home = λ l small no. let e = g.below l small in let z : bit (is_out (account_of q l) i) ≡ 0 = ap bit (waiting.never_out (account_of q l) i (λ o. no (of o))) in omega arith;
    out = grind (arith, out_is);
    waits = row_is_kept q rows i calm fit (λ none_there. none_some keys (sym none_there ∙ there));
  }
    where
      of : {b : Account (KeyView T) A} → waiting.IsOut b i → IsOut b i
      of (slotted h k) = inl (h, k)
      of (handed h k) = inr (h, k)

  pub rows_keep : (q q' : WriterView (BatchView T P) (KeyView T) A) (rows : List (BucketView T)) (i : ℕ) (kept : Option (List (KeyView T))) → q ≡ q' → Calm q' → RowsFit q rows → kept ≡ row_at rows i → Keeps q' i kept
  rows_keep q q' rows i kept same calm fit is = grind (arith, no_row_is_freed, row_is_home)
