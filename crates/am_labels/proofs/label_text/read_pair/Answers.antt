use Rattle.std.proofs.Common.{◌≡◌, ◌∙◌, ◌∷◌, ◌++◌, ◌≤◌, List, ℕ, length, arith, ap, subst, rules}
use Rattle.am_labels.specs.Printing.{escaped_all}
use Rattle.am_labels.specs.Letters.{IsMeantUntil, IsMeantWhole}
use Rattle.am_labels.proofs.LabelTexts.{closes, is_closed, pair_split, until_shorter}
use Rattle.am_labels.proofs.label_text.read_pair.Goals as goal

pub returns-in_default-after-clause-read : goal.returns-in_default-after-clause-read
returns-in_default-after-clause-read c = λ pair rest shown.
    let read = c.in_ok-name.ensures.read pair.0 (34 ∷ (escaped_all pair.1 ++ 34 ∷ rest)) (shown ∙ pair_split pair rest) in
    let named : (c.in-Some.name ≡ pair.0) × (c.in-Some.after.now ≡ 61 ∷ (34 ∷ (escaped_all pair.1 ++ 34 ∷ rest))) = search (rules, read) in
    let cut : c.in-Some.after.now ≡ 61 ∷ (34 ∷ c.in-Some-strip_prefix.quoted.now) = search rules in
    let inner : c.in-Some-strip_prefix.quoted.now ≡ escaped_all pair.1 ++ 34 ∷ rest = cc in
    is_closed pair.1 rest c.in_ok-value.value (subst (λ (text : List ℕ). IsMeantWhole text c.in_ok-value.value) inner (search rules))

pub returns-clause-shorter : goal.returns-clause-shorter
returns-clause-shorter c =
    let short = until_shorter c.in-Some-strip_prefix.quoted.now c.in-Some-after.after.now c.in_ok-value.value (search rules) in
    let before : length c.in-Some.after.now ≤ length c.args.text.now = search rules in
    let cut : c.in-Some.after.now ≡ 61 ∷ (34 ∷ c.in-Some-strip_prefix.quoted.now) = search rules in
    omega (arith, short, before, ap length cut)

pub returns-clause-read : goal.returns-clause-read
returns-clause-read c = λ pair rest shown.
    let read = c.in_ok-name.ensures.read pair.0 (34 ∷ (escaped_all pair.1 ++ 34 ∷ rest)) (shown ∙ pair_split pair rest) in
    let named : (c.in-Some.name ≡ pair.0) × (c.in-Some.after.now ≡ 61 ∷ (34 ∷ (escaped_all pair.1 ++ 34 ∷ rest))) = search (rules, read) in
    let cut : c.in-Some.after.now ≡ 61 ∷ (34 ∷ c.in-Some-strip_prefix.quoted.now) = search rules in
    let inner : c.in-Some-strip_prefix.quoted.now ≡ escaped_all pair.1 ++ 34 ∷ rest = cc in
    let closed = closes pair.1 rest c.in-Some-after.after.now c.in_ok-value.value (subst (λ (text : List ℕ). IsMeantUntil text c.in-Some-after.after.now c.in_ok-value.value) inner (search rules)) in
    (named.0, closed.0, closed.1)
