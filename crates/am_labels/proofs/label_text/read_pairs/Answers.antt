use Rattle.std.proofs.Common.{◌≢◌, ◌∷◌, [], List, ℕ, Some, None, lit<, rules, subst, sym}
use Rattle.std.proofs.lemmas.Str.Pattern.{strip_prefix_char}
use Rattle.am_labels.proofs.LabelTexts.{Remains, all_read, pair_left, read_last, read_on, ReadsPair}
use Rattle.am_labels.proofs.label_text.read_pairs.Goals as goal

pub returns-in_default : goal.returns-in_default
returns-in_default c = λ labels shown.
    strip_prefix_char 123 c.args.text.now None c.in_default.ensures.cases (lit< tt) _ (sym shown)

pub returns-in_default-2 : goal.returns-in_default-2
returns-in_default-2 c = λ labels shown.
    let more : c.loop-rest.rest.now ≢ 125 ∷ [] = search rules in
    let left = pair_left c.args.text.now c.loop-rest.rest.now c.loop-rest.pairs.items c.loop-rest.invariant.1 more labels shown in
    let read = c.in_ok-name.ensures.read left.0 _ left.3 in
    search (rules, read)

pub loop-rest-preserved-in-Some-strip_prefix : goal.loop-rest-preserved-in-Some-strip_prefix
loop-rest-preserved-in-Some-strip_prefix c =
    let more : c.loop-rest.rest.now ≢ 125 ∷ [] = search rules in
    let reads : ReadsPair c.loop-rest.rest.now c.in-Some-2.name c.in-Some-2.value c.in-Some-2.after.now = λ pair tail e. let read = c.in_ok-name.ensures.read pair tail e in search (rules, read) in
    let cut = strip_prefix_char 44 c.in-Some-2.after.now (Some c.in-Some-strip_prefix.others) c.in-Some-strip_prefix.ensures.cases (lit< tt) in
    (search rules, subst (λ (read : List (List ℕ × List ℕ)). Remains c.args.text.now read c.in-Some-strip_prefix.others.now) (search rules) (read_on c.args.text.now c.loop-rest.rest.now c.in-Some-2.after.now c.in-Some-strip_prefix.others.now c.in-Some-2.name c.in-Some-2.value c.loop-rest.pairs.items c.loop-rest.invariant.1 more reads cut))

pub loop-rest-preserved : goal.loop-rest-preserved
loop-rest-preserved c =
    let more : c.loop-rest.rest.now ≢ 125 ∷ [] = search rules in
    let reads : ReadsPair c.loop-rest.rest.now c.in-Some-2.name c.in-Some-2.value c.in-Some-2.after.now = λ pair tail e. let read = c.in_ok-name.ensures.read pair tail e in search (rules, read) in
    let none = strip_prefix_char 44 c.in-Some-2.after.now None c.in-None.ensures.cases (lit< tt) in
    (search rules, subst (λ (read : List (List ℕ × List ℕ)). Remains c.args.text.now read c.in-Some-2.after.now) (search rules) (read_last c.args.text.now c.loop-rest.rest.now c.in-Some-2.after.now c.in-Some-2.name c.in-Some-2.value c.loop-rest.pairs.items c.loop-rest.invariant.1 more reads none))

pub returns : goal.returns
returns c = all_read c.args.text.now c.loop-rest.rest.now c.loop-rest.pairs.items c.loop-rest.invariant.1 (search rules)
