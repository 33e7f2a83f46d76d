-- A new place: its keys go into the slots of live lanes and into the place's row.
use Rattle.std.proofs.Common.{◌≡◌, ◌≢◌, ℕ, ◌+◌, ◌<◌, ◌≤◌, List, [], ◌∷◌, ◌++◌, length, refl, sym, ap, ◌∙◌, subst, arith, Option, Some, None, true, false, nat_eq, eq-eqb, add-one, drop, slice_get}
use Rattle.std.proofs.lemmas.Bool.{eqb-true, false≢true}
use mathlib.Core.Logic.{dite}
use native.Mathlib.Decide.{ℕ_discrete}
use Rattle.atomic_table.proofs.Lists.{at_last}
use Rattle.am_segment.specs.Segments.{KeyView}
use Rattle.am_cast.specs.declared.limits.TheConstants.{LANES}
use Rattle.am_cast.specs.declared.batch_view.BatchView.{BatchView}
use Rattle.am_cast.specs.declared.views.Account.{Account}
use Rattle.am_cast.specs.declared.views.WriterView.{WriterView}
use Rattle.am_cast.specs.Rule.{live}
use Rattle.am_cast.specs.Changes.{with_account, laying, grown, longer}
use Rattle.am_cast.specs.Seats.{account_of}
use Rattle.am_cast.specs.Keys.{key_of}
use Rattle.am_cast.specs.inside.Filling.{FilledTo, AreReady}
use Rattle.am_cast.specs.inside.KeyRows.{BucketView, row_at}
use Rattle.am_cast.specs.inside.Waiting.{is_out, is_live, Gathered, FitsAt, RowsFit}
use Rattle.am_cast.proofs.Slots.{at_length, prefix_at}
use Rattle.am_cast.proofs.Tails.{grown_live, grown_else}
use Rattle.am_cast.proofs.Writers.{account_same, account_else, account_longer, filled_else}
use Rattle.am_cast.proofs.Waiting.{slotted, same_out, is_out_when, never_out, not_true, fits_ext, gathered_more, gathered_skip, gathered_same, gathered_clear}
use Rattle.std.proofs.lemmas.Grind.{common_steps}

live_is : {K A : Type 0} (b : Account K A) → b.stand ≡ live → is_live b ≡ true
live_is b e = eq-eqb b.stand live e

else_is : {K A : Type 0} (b : Account K A) → b.stand ≢ live → is_live b ≡ false
else_is b ne = not_true (is_live b) (λ e. ne (eqb-true b.stand live e))

module _ {T P A : Type 0} (x : BatchView T P) where
  -- one lane's key more
  pub fill_step : (q₀ q q' : WriterView (BatchView T P) (KeyView T) A) (k : ℕ) (keys keys' : List (KeyView T)) → k < LANES → FilledTo key_of q₀ x k q → Gathered x (λ l. is_live (account_of q₀ l)) k keys
      → ((account_of q k).stand ≡ live → (q' ≡ with_account k (laying (key_of x k) (account_of q k)) q) × (keys' ≡ keys))
      → ((account_of q k).stand ≢ live → (q' ≡ q) × (keys' ≡ keys ++ key_of x k ∷ []))
      → FilledTo key_of q₀ x (k + 1) q' × Gathered x (λ l. is_live (account_of q₀ l)) (k + 1) keys'
  fill_step q₀ q q' k keys keys' small f g lives rests = let b : Account (KeyView T) A = account_of q₀ k in let was : account_of q k ≡ b = (f.2 k small).1 (omega arith) in
      dite (ℕ_discrete b.stand live)
      (λ (e : b.stand ≡ live). let r = lives (ap (λ (b : Account (KeyView T) A). b.stand) was ∙ e) in let is = r.0 in (
        (
          ap (λ (q : WriterView (BatchView T P) (KeyView T) A). q.tail) is ∙ f.0,
          ap (λ (q : WriterView (BatchView T P) (KeyView T) A). length q.accounts) is ∙ Rattle.std.proofs.Common.length-set q.accounts k (laying (key_of x k) (account_of q k)) ∙ f.1,
          grind (arith, account_same, account_else),
        ),
        subst (λ (z : ℕ × List (KeyView T)). Gathered x (λ l. is_live (account_of q₀ l)) z.0 z.1) (λ i. (sym (add-one k) i, sym r.1 i)) (gathered_skip x (λ l. is_live (account_of q₀ l)) k keys g (live_is b e)),
      ))
      (λ (ne₀ : b.stand ≢ live). let r = rests (λ e. ne₀ (ap (λ (b : Account (KeyView T) A). b.stand) (sym was) ∙ e)) in (
        grind (arith, filled_else),
        subst (λ (z : ℕ × List (KeyView T)). Gathered x (λ l. is_live (account_of q₀ l)) z.0 z.1) (λ i. (sym (add-one k) i, sym r.1 i)) (gathered_more x (λ l. is_live (account_of q₀ l)) k keys g (else_is b ne₀)),
      ))

  -- which keys are out when the log has grown
  grown_at : (b : Account (KeyView T) A) (n : ℕ) → (b.stand ≡ live → (b.cleared ≤ b.stop) × (b.stop ≡ n)) → b.stop ≤ n → (b.away ≡ true → b.known < n) → is_out (grown b) n ≡ is_live b
  grown_at b n lives stops away = grind (arith, grown_live, is_out_when, slotted, live_is, grown_else, never_out, else_is)

  grown_off : (b : Account (KeyView T) A) (n i : ℕ) → (b.stand ≡ live → (b.cleared ≤ b.stop) × (b.stop ≡ n)) → i ≢ n → is_out (grown b) i ≡ is_out b i
  grown_off b n i lives ne = grind (arith, grown_live, same_out, grown_else, slotted)

  -- no row is there yet
  pub no_row_yet : (q : WriterView (BatchView T P) (KeyView T) A) (rows : List (BucketView T)) (n : ℕ) → n ≡ length q.tail.log → RowsFit q rows → row_at rows n ≡ None
  no_row_yet q rows n e fits = grind (arith, at_length)

  fits_longer : (q : WriterView (BatchView T P) (KeyView T) A) (rows rows' : List (BucketView T)) (n : ℕ) → n ≡ length q.tail.log → AreReady q → RowsFit q rows → ((p : ℕ) → p ≢ n → row_at rows' p ≡ row_at rows p)
      → FitsAt (longer x q) n (row_at rows' n) → RowsFit (longer x q) rows'
  fits_longer q rows rows' n long ready fits others at_n i = dite (ℕ_discrete i n)
      (λ e. subst (λ (j : ℕ). FitsAt (longer x q) j (row_at rows' j)) (sym e) at_n)
      (λ ne. subst (λ (o : Option (List (KeyView T))). FitsAt (longer x q) i o) (sym (others i ne)) (fits_ext q (longer x q) i (row_at rows i) (λ y e. prefix_at q.tail.log (q.tail.log ++ x ∷ []) i y (x ∷ [], refl) e)
      (λ l h. ap (λ (b : Account (KeyView T) A). is_out b i) (account_longer q x l (omega arith)) ∙ grown_off (account_of q l) (length q.tail.log) i (ready.1 l h).0 (λ z. ne (z ∙ sym long))) (fits i)))

  now_out : (q : WriterView (BatchView T P) (KeyView T) A) (n : ℕ) → n ≡ length q.tail.log → AreReady q → (l : ℕ) → l < LANES → is_out (account_of (longer x q) l) n ≡ is_live (account_of q l)
  now_out q n long ready l h = grind (arith, common_steps, account_longer, grown_at)

  -- the place's row waits
  pub fits_row : (q q' : WriterView (BatchView T P) (KeyView T) A) (rows rows' : List (BucketView T)) (n : ℕ) (keys : List (KeyView T)) → q' ≡ longer x q → n ≡ length q.tail.log → AreReady q → RowsFit q rows
      → Gathered x (λ l. is_live (account_of q l)) LANES keys → nat_eq (length keys) LANES ≡ false → row_at rows' n ≡ Some keys → ((p : ℕ) → p ≢ n → row_at rows' p ≡ row_at rows p) → RowsFit q' rows'
  fits_row q q' rows rows' n keys is long ready fits g few here others = subst (λ (q : WriterView (BatchView T P) (KeyView T) A). RowsFit q rows') (sym is) (fits_longer q rows rows' n long ready fits others
      (subst (λ (o : Option (List (KeyView T))). FitsAt (longer x q) n o) (sym here) (
        x,
        at_last q.tail.log x n (sym long),
        gathered_same x (λ l. is_live (account_of q l)) (λ l. is_out (account_of (longer x q) l) n) LANES keys (now_out q n long ready) g,
        (let ne : length keys ≢ LANES = (λ z. false≢true (sym few ∙ eq-eqb (length keys) LANES z)) in omega arith),
      )))

  -- no lane is live, and the segment has ended
  pub fits_ended : (q q' : WriterView (BatchView T P) (KeyView T) A) (rows : List (BucketView T)) (n : ℕ) (keys : List (KeyView T)) → q' ≡ longer x q → n ≡ length q.tail.log → AreReady q → RowsFit q rows
      → Gathered x (λ l. is_live (account_of q l)) LANES keys → nat_eq (length keys) LANES ≡ true → RowsFit q' rows
  fits_ended q q' rows n keys is long ready fits g full = subst (λ (q : WriterView (BatchView T P) (KeyView T) A). RowsFit q rows) (sym is) (fits_longer q rows rows n long ready fits (λ p ne. refl)
      (grind (arith, no_row_yet, now_out, gathered_clear, eqb-true)))

-- the first item, and the others
pub first_rest : {X : Type 0} → (xs : List X) (y : X) → slice_get xs 0 ≡ Some y → y ∷ drop 1 xs ≡ xs
first_rest xs y e = grind arith

module _ {T P A : Type 0} where
  -- a filled lane is live where it was
  pub filled_live : (q q' : WriterView (BatchView T P) (KeyView T) A) (x : BatchView T P) (l : ℕ) → l < LANES → FilledTo key_of q x LANES q' → is_live (account_of q' l) ≡ is_live (account_of q l)
  filled_live q q' x l small f = grind arith
