use Rattle.std.proofs.Common.{◌∷◌, List, ℕ, Some, None, length, arith, ap, lit<, subst, rules}
use Rattle.std.proofs.lemmas.Str.Pattern.{strip_prefix_char}
use Rattle.am_labels.specs.Letters.{IsMeantUntil, IsMeantWhole}
use Rattle.am_labels.proofs.LabelTexts.{closes, is_closed, name_begins, name_quoted, plain_read, until_shorter}
use Rattle.am_labels.proofs.label_text.read_name.Goals as goal

pub returns-in_default-after-clause-read : goal.returns-in_default-after-clause-read
returns-in_default-after-clause-read c = λ name rest shown.
    let inner = name_quoted c.args.text.now name rest c.in-Some.quoted.now (strip_prefix_char 34 c.args.text.now (Some c.in-Some.quoted) c.in-Some.ensures.cases (lit< tt)) shown in
    is_closed name (61 ∷ rest) c.in_ok-name.name (subst (λ (text : List ℕ). IsMeantWhole text c.in_ok-name.name) inner (search rules))

pub returns-in-Some-clause-shorter : goal.returns-in-Some-clause-shorter
returns-in-Some-clause-shorter c =
    let starts = strip_prefix_char 34 c.args.text.now (Some c.in-Some.quoted) c.in-Some.ensures.cases (lit< tt) in
    let short = until_shorter c.in-Some.quoted.now c.in-Some-after.after.now c.in_ok-name.name (search rules) in
    omega (arith, short, ap length starts)

pub returns-in-Some-clause-read : goal.returns-in-Some-clause-read
returns-in-Some-clause-read c = λ name rest shown.
    let inner = name_quoted c.args.text.now name rest c.in-Some.quoted.now (strip_prefix_char 34 c.args.text.now (Some c.in-Some.quoted) c.in-Some.ensures.cases (lit< tt)) shown in
    closes name (61 ∷ rest) c.in-Some-after.after.now c.in_ok-name.name (subst (λ (text : List ℕ). IsMeantUntil text c.in-Some-after.after.now c.in_ok-name.name) inner (search rules))

pub returns-in_default-split_name-clause-read : goal.returns-in_default-split_name-clause-read
returns-in_default-split_name-clause-read c = λ name rest shown.
    name_begins c.args.text.now name rest (strip_prefix_char 34 c.args.text.now None c.in_default.ensures.cases (lit< tt)) shown (search rules)

pub returns-clause-read : goal.returns-clause-read
returns-clause-read c = λ name rest shown.
    plain_read c.args.text.now name rest c.in_ok-from_str.field-0 c.in-Some-split_name.after.now (strip_prefix_char 34 c.args.text.now None c.in_default.ensures.cases (lit< tt)) shown (search rules)
