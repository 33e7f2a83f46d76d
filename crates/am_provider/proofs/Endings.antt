-- How endings are kept as one comes, as trims discard some, and as memory lets go of some.
use Rattle.std.proofs.Common.{◌≡◌, ℕ, ◌+◌, ◌-◌, ◌≤◌, Bool, true, false, cond, List, [], ◌∷◌, length, filter, refl, sym, ap, ◌∙◌, arith}
use Rattle.std.proofs.lemmas.List.Sums.{length-filter, count_by-le-length}
use Rattle.std.proofs.lemmas.Bool.{le-leb, leb-true}
use Rattle.am_provider.specs.declared.answers.Ended.{Ended}
use Rattle.am_store.specs.KeptJournals.{KeptView}
use Rattle.am_provider.specs.inside.Endings.{EndingsView, is_since, AreHeld, AreEndingsOf}

-- of what was kept after some trims, what is kept after more
pub kept_twice : (few many : ℕ) → few ≤ many → (endings : List Ended) → filter (is_since many) (filter (is_since few) endings) ≡ filter (is_since many) endings
kept_twice few many low [] = refl
kept_twice few many low (ended ∷ endings) = by_test (kept_twice few many low endings) (is_since few ended) (is_since many ended) refl refl
  where
    by_test : filter (is_since many) (filter (is_since few) endings) ≡ filter (is_since many) endings → (first other : Bool) → is_since few ended ≡ first → is_since many ended ≡ other
        → filter (is_since many) (filter (is_since few) (ended ∷ endings)) ≡ filter (is_since many) (ended ∷ endings)
    by_test rest true other e d =
        ap (λ (b : Bool). filter (is_since many) (cond b (ended ∷ filter (is_since few) endings) (filter (is_since few) endings))) e
        ∙ ap (λ xs. cond (is_since many ended) (ended ∷ xs) xs) rest
    by_test rest false false e d =
        ap (λ (b : Bool). filter (is_since many) (cond b (ended ∷ filter (is_since few) endings) (filter (is_since few) endings))) e
        ∙ (rest ∙ ap (λ (b : Bool). cond b (ended ∷ filter (is_since many) endings) (filter (is_since many) endings)) (sym d))
    by_test rest false true e d = absurd (let above = leb-true many ended.at d in let fails : is_since few ended ≡ true = le-leb few ended.at (omega (arith, low, above)) in let no : false ≡ true = sym e ∙ fails in cc)

pub fewer : (count : ℕ) (endings : List Ended) → length (filter (is_since count) endings) ≤ length endings
fewer count endings = omega (arith, length-filter (is_since count) endings, count_by-le-length (is_since count) endings)

module _ (all : List Ended) (before gone : ℕ) (held : List Ended) (others : ℕ) (kept : AreHeld all before gone held others) where
  -- memory lets go of some
  pub held_less : (now more : ℕ) (rest : List Ended) → gone ≤ now → rest ≡ filter (is_since now) held → others + (length held - length rest) ≡ more → AreHeld all before now rest more
  held_less now more rest late is counts = record {
    few = omega (arith, kept.few, late);
    memory = is ∙ (ap (filter (is_since now)) kept.memory ∙ kept_twice gone now late all);
    counted = let less : length rest ≤ length held = omega (arith, ap length is, fewer now held) in omega (arith, kept.counted, counts);
  }

  -- what memory has, by what trims left
  pub held_of_left : held ≡ filter (is_since gone) (filter (is_since before) all)
  held_of_left = kept.memory ∙ sym (kept_twice before gone kept.few all)

  pub others_of_left : others + length held ≡ (length all - length (filter (is_since before) all)) + length (filter (is_since before) all)
  others_of_left = omega (arith, kept.counted, fewer before all)

-- ---- the endings and the journal

pub still_endings_of : (was is : EndingsView) (old new : KeptView) → AreEndingsOf was old → is.before ≡ was.before → is.gone ≡ was.gone → new.journal.before ≡ old.journal.before → new.gone ≡ old.gone → AreEndingsOf is new
still_endings_of was is old new of before gone since held = record {
  before = before ∙ (of.before ∙ sym since);
  gone = gone ∙ (of.gone ∙ sym held);
}
