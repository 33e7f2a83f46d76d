-- Stretches of bytes that pass a test, at either end of a list.
use Rattle.std.proofs.Common.{◌≡◌, ℕ, ◌+◌, ◌-◌, ◌&&◌, Bool, true, false, cond, List, [], ◌∷◌, ◌++◌, length, take, drop, reverse, refl, sym, ap, ◌∙◌, arith}
use Rattle.std.proofs.lemmas.Bool.{false≢true}
use Rattle.std.specs.List.{list_all, prefix_len, suffix_len}
use Rattle.std.proofs.Math.Numerals.{one-add}
use Rattle.std.proofs.Math.Seq.{take-append_seam}
use Rattle.std.proofs.lemmas.List.{take-append-drop, reverse-append, reverse-reverse, length-reverse, length-drop}
use Rattle.std.proofs.lemmas.List.Folds.{list_all-append}
use Rattle.am_labels.specs.Letters.{begins}

pub both : (a b : Bool) → (a && b) ≡ true → (a ≡ true) × (b ≡ true)
both true b h = (refl, h)
both false b h = absurd (false≢true h)

module _ (p : ℕ → Bool) where
  front_step : (b : Bool) (x : ℕ) (xs : List ℕ) → p x ≡ b → list_all p (take (prefix_len p xs) xs) ≡ true → list_all p (take (cond b (1 + prefix_len p xs) 0) (x ∷ xs)) ≡ true
  front_step true x xs e h = rw (one-add (prefix_len p xs), e) h
  front_step false x xs e h = refl

  -- the longest front that passes does
  pub front_passes : (xs : List ℕ) → list_all p (take (prefix_len p xs) xs) ≡ true
  front_passes [] = refl
  front_passes (x ∷ xs) = front_step (p x) x xs refl (front_passes xs)

  rest_step : (b : Bool) (x : ℕ) (xs : List ℕ) → p x ≡ b → begins p (drop (prefix_len p xs) xs) ≡ false → begins p (drop (cond b (1 + prefix_len p xs) 0) (x ∷ xs)) ≡ false
  rest_step true x xs e h = rw (one-add (prefix_len p xs)) h
  rest_step false x xs e h = e

  -- and what follows it doesn't begin with more
  pub front_ends : (xs : List ℕ) → begins p (drop (prefix_len p xs) xs) ≡ false
  front_ends [] = refl
  front_ends (x ∷ xs) = rest_step (p x) x xs refl (front_ends xs)

  pub all_reversed : (xs : List ℕ) → list_all p xs ≡ true → list_all p (reverse xs) ≡ true
  all_reversed [] h = refl
  all_reversed (x ∷ xs) h =
      let parts = both (p x) (list_all p xs) h in
      ap (list_all p) (reverse-append (x ∷ []) xs)
      ∙ (list_all-append p (reverse xs) (x ∷ []) ∙ rw (all_reversed xs parts.1, parts.0) refl)

  -- a list without the longest end that passes
  pub cut_end : (xs raw : List ℕ) → raw ≡ take (length xs - suffix_len p xs) xs → (end : List ℕ) × (list_all p end ≡ true) × (xs ≡ raw ++ end) × (begins p (reverse raw) ≡ false)
  cut_end xs raw e =
      let whole : xs ≡ (reverse (drop (prefix_len p (reverse xs)) (reverse xs))) ++ (reverse (take (prefix_len p (reverse xs)) (reverse xs))) =
      sym (reverse-reverse xs)
      ∙ (ap reverse (sym (take-append-drop (prefix_len p (reverse xs)) (reverse xs))) ∙ reverse-append (take (prefix_len p (reverse xs)) (reverse xs)) (drop (prefix_len p (reverse xs)) (reverse xs))) in
      let short : length (reverse (drop (prefix_len p (reverse xs)) (reverse xs))) ≡ length xs - (prefix_len p (reverse xs)) = length-reverse (drop (prefix_len p (reverse xs)) (reverse xs)) ∙ (length-drop (prefix_len p (reverse xs)) (reverse xs) ∙ ap (λ k. k - (prefix_len p (reverse xs))) (length-reverse xs)) in
      let same : (reverse (drop (prefix_len p (reverse xs)) (reverse xs))) ≡ raw = sym (take-append_seam (reverse (drop (prefix_len p (reverse xs)) (reverse xs))) (reverse (take (prefix_len p (reverse xs)) (reverse xs)))) ∙ (ap (λ k. take k ((reverse (drop (prefix_len p (reverse xs)) (reverse xs))) ++ (reverse (take (prefix_len p (reverse xs)) (reverse xs))))) short ∙ (ap (take (length xs - (prefix_len p (reverse xs)))) (sym whole) ∙ sym e)) in
      grind (arith, all_reversed, front_passes, reverse-reverse, front_ends)
