-- The leading sources that match the target side too: how many there are as sources come and go, and that they
-- mute no target that is on both sides.
use Rattle.std.proofs.Common.{◌≡◌, ◌≢◌, ℕ, zero, suc, ◌+◌, min, true, false, cond, List, [], ◌∷◌, ◌++◌, length, take, drop, refl, ap, arith}
use Rattle.std.specs.List.{find}
use Rattle.std.proofs.lemmas.Bool.{eq-eqb, ne_eqb}
use Rattle.std.proofs.lemmas.List.Folds.{prefix_len-append}
use Rattle.am_alert.specs.declared.alert.Alert.{Alert}
use Rattle.am_inhibit.specs.declared.source.Source.{Source}
use Rattle.am_inhibit.specs.Muting.{count_to}
use Rattle.am_inhibit.specs.inside.Indexes.{source_inhibits}
use Rattle.am_inhibit.specs.inside.LeadingTargets.{leading_targets}
use Rattle.am_inhibit.proofs.Counting.{count_to-no}

-- ---- how many there are

-- one more source after leading ones alone is a leading one too if it matches the target side
pub leading-all : (leading : ℕ) (sources : List Source) (source : Source) → leading ≡ leading_targets sources → leading ≡ length sources → leading_targets (sources ++ source ∷ []) ≡ leading + cond source.is_target 1 0
leading-all leading sources source counts all = grind (arith, prefix_len-append, eq-eqb)

-- after another one it is none
pub leading-not_all : (leading : ℕ) (sources : List Source) (source : Source) → leading ≡ leading_targets sources → leading ≢ length sources → leading_targets (sources ++ source ∷ []) ≡ leading
leading-not_all leading sources source counts not_all = grind (arith, prefix_len-append, ne_eqb)

pub leading-taken : (n : ℕ) (sources : List Source) → leading_targets (take n sources) ≡ min (leading_targets sources) n
leading-taken zero sources = omega arith
leading-taken (suc n) [] = omega arith
leading-taken (suc n) (source ∷ sources) = let rest = leading-taken n sources in grind arith

-- ---- a target on both sides

-- a source on both sides doesn't mute it
both_mute_none : (now : ℕ) (alerts : List Alert) (source : Source) → source.is_target ≡ true → source_inhibits true now alerts source ≡ false
both_mute_none now alerts source both = grind arith

-- the first source that mutes it comes after the leading ones
pub found-past : (now : ℕ) (alerts : List Alert) (sources : List Source)
    → find (source_inhibits true now alerts) sources ≡ find (source_inhibits true now alerts) (drop (leading_targets sources) sources)
found-past now alerts [] = refl
found-past now alerts (source ∷ sources) =
    let rest = found-past now alerts sources in
    let one : suc (leading_targets sources) ≡ 1 + leading_targets sources = omega arith in
    let next = ap (λ n. drop n (source ∷ sources)) one in
    grind (arith, both_mute_none)

-- and they count as examined
pub counted-past : (now : ℕ) (alerts : List Alert) (sources : List Source)
    → leading_targets sources + count_to (source_inhibits true now alerts) (drop (leading_targets sources) sources) ≡ count_to (source_inhibits true now alerts) sources
counted-past now alerts [] = refl
counted-past now alerts (source ∷ sources) =
    let rest = counted-past now alerts sources in
    let one : suc (leading_targets sources) ≡ 1 + leading_targets sources = omega arith in
    let next = ap (λ n. drop n (source ∷ sources)) one in
    grind (arith, both_mute_none, count_to-no)
