-- The members of an element of a post, over the value that its JSON is (Alertmanager's `postableAlert`,
-- API v2).
use Rattle.std.specs.Prelude.{◌≡◌, ℕ, Bool, true, false, List, [], ◌∷◌, codes, filter, refl, ⊤}
use Rattle.std.specs.Coded.{Coded, code_by, coded×, coded_ℕ, coded_list, coded_option}
use Rattle.std.specs.Prelude.{Option, Some, None, option_map, option_and_then, Result, Ok, Err}
use Rattle.std.specs.FinMap.{empty}
use Rattle.serde_json.specs.Data.{Data}
use Rattle.serde_json.specs.Data.{Members, no_members, member}
use Rattle.serde_json.specs.Find.{as_str, as_object}
use Rattle.am_labels.specs.LabelSets.{Labels, coded_labels, last_holds}
use Rattle.am_alert.specs.GivenMembers.{given}
use Rattle.am_alert.specs.TimeTexts.{time_of}
use Rattle.am_posts.specs.declared.postable.Postable.{Postable}
use Rattle.am_posts.specs.declared.postable.MemberFault.{MemberFault}
use Rattle.am_posts.specs.declared.postable.MemberFault.TheVariants.{Bad, NoMemory}

-- the members of an object as pairs of texts, if each value is a text
abbrev pub pairs_of : Members → Option (List (List ℕ × List ℕ))
pairs_of no_members = Some []
pairs_of (member name d ms) =
    option_and_then (λ pair. option_map (λ rest. pair ∷ rest) (pairs_of ms))
    (option_map (λ text. (name, text)) (as_str d))

-- the pairs of an object whose members are all texts
abbrev pub texts_of : Data → Option (List (List ℕ × List ℕ))
texts_of d = option_and_then pairs_of (as_object d)

-- whether a pair's second text isn't empty
abbrev pub has_value : List ℕ × List ℕ → Bool
has_value (name, []) = false
has_value (name, c ∷ cs) = true

-- the labels that have a value (Alertmanager ignores the others: `removeEmptyLabels`)
abbrev pub labels_of : Data → Option Labels
labels_of d = option_map (λ pairs. last_holds (filter has_value pairs)) (texts_of d)

-- all annotations, with a value or without
abbrev pub annotations_of : Data → Option Labels
annotations_of d = option_map last_holds (texts_of d)

-- an optional member: what is read of it if it is given, else the default. None: it is given and isn't
-- readable
abbrev pub if_given : {A : Type 0} → A → (Data → Option A) → Option Data → Option A
if_given absent reads None = Some absent
if_given absent reads (Some d) = reads d

-- the time of a member, or that it is absent
abbrev pub time_at : List ℕ → Data → Option (Option ℕ)
time_at name d = if_given None (λ value. option_and_then time_of (as_str value)) (given name d)

-- the text of a member, empty if it is absent
abbrev pub text_at : List ℕ → Data → Option (List ℕ)
text_at name d = if_given [] as_str (given name d)

-- one reading after another, each of which may fail, for `do`
infixl 10 ◌>>=◌
abbrev pub ◌>>=◌ : {A B : Type 0} → Option A → (A → Option B) → Option B
o >>= f = option_and_then f o

-- the members of an element, if each is readable: `labels` has to be given, the others may be absent
unfoldable pub postable_of : Data → Option Postable
postable_of d = do
  labels ← option_and_then labels_of (given (codes "labels") d)
  annotations ← if_given empty annotations_of (given (codes "annotations") d)
  start ← time_at (codes "startsAt") d
  finish ← time_at (codes "endsAt") d
  generator ← text_at (codes "generatorURL") d
  Some (record {
    labels = labels;
    annotations = annotations;
    start = start;
    end = finish;
    generator = generator;
  })

-- what a reader returned is what the definition gives, unless memory ran out
abbrev pub Reads : {X Y : Type 0} → (X → Y) → Result X MemberFault → Option Y → Type 0
Reads view (Ok x) read = read ≡ Some (view x)
Reads view (Err Bad) read = read ≡ None
Reads view (Err NoMemory) read = ⊤

-- the members of an element as the tuple of its fields, in which models store them
abbrev pub coded_postable : Coded Postable
coded_postable =
    code_by (Labels × (Labels × (Option ℕ × (Option ℕ × List ℕ))))
    (coded× coded_labels (coded× coded_labels
    (coded× (coded_option coded_ℕ) (coded× (coded_option coded_ℕ) (coded_list coded_ℕ)))))
    (λ a. (a.labels, (a.annotations, (a.start, (a.end, a.generator)))))
    (λ p. record {
      labels = p.0;
      annotations = p.1.0;
      start = p.1.1.0;
      end = p.1.1.1.0;
      generator = p.1.1.1.1;
    })
    (λ _. refl)
