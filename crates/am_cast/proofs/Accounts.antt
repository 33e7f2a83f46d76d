-- What the writer's seat knows of one lane, before and after a step.
use Rattle.std.proofs.Common.{◌≡◌, ℕ, zero, suc, ◌<◌, List, [], ◌∷◌, length, set, get_or, refl, sym, ap, arith, Some}
use mathlib.Core.Option.{some, some-ne-none, some-injective}
use lib.ListN.{get_elem?}
use Rattle.atomic_table.proofs.Lists.{set_here}
use Rattle.am_cast.specs.declared.views.Account.{Account}
use Rattle.am_cast.specs.declared.views.WriterView.{WriterView}
use Rattle.am_cast.specs.declared.views.View.{View}
use Rattle.am_cast.specs.Rule.{first_account}
use Rattle.am_cast.specs.Changes.{with_writer, with_account}
use Rattle.am_cast.specs.Steps.{KnowsOf}
use Rattle.am_cast.specs.Seats.{account_of}

pub set_set : {X : Type 0} (xs : List X) (i : ℕ) (a b : X) → set (set xs i a) i b ≡ set xs i b
set_set [] i a b = refl
set_set (x ∷ xs) zero a b = refl
set_set (x ∷ xs) (suc i) a b = ap (λ l. x ∷ l) (set_set xs i a b)

module _ {B K A : Type 0} where
  pub knows_of : (w : View B K A) (q : WriterView B K A) (l : ℕ) → w.writer ≡ Some q → l < length q.accounts → KnowsOf w l q (account_of q l)
  knows_of w q l is small = (is, at_there q.accounts l small)
    where
      at_there : (xs : List (Account K A)) (i : ℕ) → i < length xs → get_elem? xs i ≡ some (get_or xs i first_account)
      at_there [] i h = absurd (omega arith)
      at_there (x ∷ xs) zero h = refl
      at_there (x ∷ xs) (suc i) h = at_there xs i (omega arith)

  pub is_account_of : (q : WriterView B K A) (l : ℕ) (b : Account K A) → get_elem? q.accounts l ≡ some b → b ≡ account_of q l
  is_account_of q l b e = go q.accounts l e
    where
      go : (xs : List (Account K A)) (i : ℕ) → get_elem? xs i ≡ some b → b ≡ get_or xs i first_account
      go [] i e = absurd (some-ne-none b (sym e))
      go (x ∷ xs) zero e = sym (some-injective x b e)
      go (x ∷ xs) (suc i) e = go xs i e

  pub knows_after : (w w' : View B K A) (q : WriterView B K A) (l : ℕ) (b : Account K A) → w' ≡ with_writer (with_account l b q) w → l < length q.accounts → KnowsOf w' l (with_account l b q) b
  knows_after w w' q l b is small = (ap (λ (v : View B K A). v.writer) is, set_here q.accounts l b small)

  pub twice : (w w₁ w₂ : View B K A) (q : WriterView B K A) (l : ℕ) (b₁ b₂ : Account K A) → w₁ ≡ with_writer (with_account l b₁ q) w → w₂ ≡ with_writer (with_account l b₂ (with_account l b₁ q)) w₁ → w₂ ≡ with_writer (with_account l b₂ q) w
  twice w w₁ w₂ q l b₁ b₂ e f = grind (arith, set_set)
