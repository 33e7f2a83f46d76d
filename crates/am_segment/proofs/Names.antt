-- Two segments have different names: the whole of what keeps a lifetime alive leaves nothing of it to others.
use Rattle.std.proofs.Common.{◌≡◌, ◌≢◌, ℕ, ◌^◌, [], ◌∷◌, sym, subst}
use mathlib.Core.Logic.{dite}
use native.Mathlib.Decide.{ℕ_discrete}
use Rattle.left_right.specs.Parted.{tokens}
use Rattle.left_right.proofs.PartSteps.{tokens_whole}
use seplogic.Ra.Ura.{Ura}
use base.Fml.{Lft, Share, flft}
use base.Fraction.{full_share}
use base.Logic.{SProp, ent, sep, never, never_e, via, emp}
use contract.Monad.{fact, fact_i}
use types.Logic.{Logic, sem}
use types.Kit.{‵, raw, ◌$◌, ◌∵◌, !, qed, by, move, use0, use1, join, fpick, updating, now, done}
use types.Tokens.{lft_end}

module _ {M : Type 1} {𝓤 : Ura M} (𝓛 : Logic 𝓤) where
  open 𝓛 use {H, A}

  not_dead : (κ : Lft) (s : Share) (X : SProp 𝓤) → ent 𝓤 (sep 𝓤 (A.lft κ s) (A.dead κ)) X
  not_dead κ s X = via 𝓤 (never 𝓤) (𝓛.lfts.lft-dead κ s) (never_e 𝓤 X)

  none_left : (n j : ℕ) (X : SProp 𝓤) → ent 𝓤 (sep 𝓤 (sem 𝓛 (tokens n (2 ^ 63))) (sem 𝓛 (tokens n j))) (H.⇛ X)
  none_left n j X = qed 𝓛 (‵ (tokens n (2 ^ 63)) ∷ ‵ (tokens n j) ∷ []) ∵ updating ! $ use1 𝓛 (‵ (flft (n ∷ []) full_share)) (tokens_whole 𝓛 n) $ lft_end ! tt $
      move ! (1 ∷ []) $ fpick ! (λ e. fpick ! (λ c. now ! $ by ! (not_dead (n ∷ []) e X)))

  abbrev Both : ℕ → ℕ → ℕ → ℕ → SProp 𝓤
  Both n m k j = sep 𝓤 (fact 𝓤 (n ≢ m)) (sep 𝓤 (sem 𝓛 (tokens n k)) (sem 𝓛 (tokens m j)))

  pub names_differ : (n m k j : ℕ) → k ≡ 2 ^ 63 → ent 𝓤 (sep 𝓤 (sem 𝓛 (tokens n k)) (sem 𝓛 (tokens m j))) (H.⇛ (Both n m k j))
  names_differ n m k j all = dite (ℕ_discrete n m)
      (λ (same : n ≡ m). subst (λ (q : ℕ). ent 𝓤 (sep 𝓤 (sem 𝓛 (tokens n q)) (sem 𝓛 (tokens m j))) (H.⇛ (Both n m k j))) (sym all)
      (subst (λ (q : ℕ). ent 𝓤 (sep 𝓤 (sem 𝓛 (tokens n (2 ^ 63))) (sem 𝓛 (tokens q j))) (H.⇛ (Both n m k j))) same (none_left n j (Both n m k j))))
      (λ (other : n ≢ m). qed 𝓛 (‵ (tokens n k) ∷ ‵ (tokens m j) ∷ []) ∵ updating ! $ join ! $ use0 𝓛 (raw (fact 𝓤 (n ≢ m))) (fact_i 𝓤 (n ≢ m) (emp 𝓤) other) $ now ! $ done !)
