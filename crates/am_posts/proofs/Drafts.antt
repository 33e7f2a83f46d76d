-- Facts about the words of specs/inside/Drafts.antt: one member more is read.
use Rattle.std.proofs.Common.{◌≡◌, ◌∙◌, ℕ, List, [], Bool, Option, None, Some, false, true, bytes_eq, codes, refl, sym, ap, arith, rules}
use Rattle.std.proofs.lemmas.Slice.Eq.{bytes_eq-Decides}
use Rattle.std.specs.Prelude.{filter, option_and_then, option_map}
use Rattle.std.specs.FinMap.{empty}
use Rattle.serde_json.specs.Data.{Data, Members, boolean, object, put, string}
use Rattle.serde_json.specs.Find.{as_bool, as_str, get_member}
use Rattle.serde_json.proofs.Views.{get_member-put, get_member-put_other}
use Rattle.am_labels.specs.LabelSets.{Labels, last_holds}
use Rattle.am_posts.specs.FromParts.{HasValues}
use Rattle.am_alert.specs.GivenMembers.{given, unless_null}
use Rattle.am_posts.specs.Postables.{annotations_of, has_value, if_given, labels_of, postable_of, text_at, texts_of, time_at}
use Rattle.am_alert.specs.TimeTexts.{time_of}
use Rattle.am_posts.specs.WholeAlerts.{alert_in}
use Rattle.am_alert.specs.declared.alert.Alert.{Alert}
use Rattle.am_posts.specs.declared.draft.Draft.{Draft}
use Rattle.am_posts.specs.declared.postable.Postable.{Postable}
use Rattle.am_posts.specs.inside.Drafts.{IsDraftOf}
use Rattle.am_posts.proofs.Tokens.{apart}
use Rattle.am_posts.proofs.ValidAlerts.{labels_valued}

-- what is given at the name of a member that was put
here : (k : List ℕ) (d : Data) (ms : Members) → given k (object (put k d ms)) ≡ unless_null d
here k d ms = ap (option_and_then unless_null) (get_member-put k d ms)

-- what is given at another name stays
elsewhere : (name k : List ℕ) (d : Data) (ms : Members) → (name ≡ k → ⊥) → given name (object (put k d ms)) ≡ given name (object ms)
elsewhere name k d ms other = ap (option_and_then unless_null) (get_member-put_other name k d ms other)

-- a member that isn't null is given
not_null : (same : Bool) (name k : List ℕ) (d : Data) (ms : Members) → bytes_eq name k ≡ same → unless_null d ≡ Some d
    → given name (object ms) ≡ get_member name ms → given name (object (put k d ms)) ≡ get_member name (put k d ms)
not_null true name k d ms is some before = grind (arith, bytes_eq-Decides, here, get_member-put)
not_null false name k d ms is some before = grind (arith, elsewhere, apart, get_member-put_other)

abbrev time_given : Option Data → Option (Option ℕ)
time_given o = if_given None (λ value. option_and_then time_of (as_str value)) o

abbrev text_given : Option Data → Option (List ℕ)
text_given o = if_given [] as_str o

abbrev flag_given : Option Data → Option Bool
flag_given o = if_given false as_bool o

module _ (draft : Draft) (k : List ℕ) (d : Data) (ms : Members) (read : IsDraftOf draft ms) where
  labels_stay : (codes "labels" ≡ k → ⊥) → option_and_then labels_of (given (codes "labels") (object (put k d ms))) ≡ draft.labels
  labels_stay other = ap (option_and_then labels_of) (elsewhere (codes "labels") k d ms other) ∙ read.labels

  annotations_stay : (codes "annotations" ≡ k → ⊥) → if_given empty annotations_of (given (codes "annotations") (object (put k d ms))) ≡ Some draft.annotations
  annotations_stay other = ap (if_given empty annotations_of) (elsewhere (codes "annotations") k d ms other) ∙ read.annotations

  start_stays : (codes "startsAt" ≡ k → ⊥) → time_at (codes "startsAt") (object (put k d ms)) ≡ Some draft.start
  start_stays other = ap time_given (elsewhere (codes "startsAt") k d ms other) ∙ read.start

  finish_stays : (codes "endsAt" ≡ k → ⊥) → time_at (codes "endsAt") (object (put k d ms)) ≡ Some draft.end
  finish_stays other = ap time_given (elsewhere (codes "endsAt") k d ms other) ∙ read.finish

  updated_stays : (codes "updatedAt" ≡ k → ⊥) → time_at (codes "updatedAt") (object (put k d ms)) ≡ Some draft.updated
  updated_stays other = ap time_given (elsewhere (codes "updatedAt") k d ms other) ∙ read.updated

  timeout_stays : (codes "timeout" ≡ k → ⊥) → if_given false as_bool (given (codes "timeout") (object (put k d ms))) ≡ Some draft.timeout
  timeout_stays other = ap flag_given (elsewhere (codes "timeout") k d ms other) ∙ read.timeout

  generator_stays : (codes "generatorURL" ≡ k → ⊥) → text_at (codes "generatorURL") (object (put k d ms)) ≡ Some draft.generator
  generator_stays other = ap text_given (elsewhere (codes "generatorURL") k d ms other) ∙ read.generator

  null_stays_out : unless_null d ≡ Some d → (name : List ℕ) → given name (object (put k d ms)) ≡ get_member name (put k d ms)
  null_stays_out some name = not_null (bytes_eq name k) name k d ms refl some (read.no_null name)

module _ (draft : Draft) (ms : Members) (read : IsDraftOf draft ms) where
  pub takes_labels : (d : Data) (ls : Labels) → unless_null d ≡ Some d → labels_of d ≡ Some ls
      → IsDraftOf (record draft { labels = Some ls }) (put (codes "labels") d ms)
  takes_labels d ls some is = record {
    labels = ap (option_and_then labels_of) (here (codes "labels") d ms ∙ some) ∙ is;
    annotations = annotations_stay draft (codes "labels") d ms read (apart _ _ refl);
    start = start_stays draft (codes "labels") d ms read (apart _ _ refl);
    finish = finish_stays draft (codes "labels") d ms read (apart _ _ refl);
    updated = updated_stays draft (codes "labels") d ms read (apart _ _ refl);
    timeout = timeout_stays draft (codes "labels") d ms read (apart _ _ refl);
    generator = generator_stays draft (codes "labels") d ms read (apart _ _ refl);
    no_null = null_stays_out draft (codes "labels") d ms read some;
  }

  pub takes_annotations : (d : Data) (ls : Labels) → unless_null d ≡ Some d → annotations_of d ≡ Some ls
      → IsDraftOf (record draft { annotations = ls }) (put (codes "annotations") d ms)
  takes_annotations d ls some is = record {
    labels = labels_stay draft (codes "annotations") d ms read (apart _ _ refl);
    annotations = ap (if_given empty annotations_of) (here (codes "annotations") d ms ∙ some) ∙ is;
    start = start_stays draft (codes "annotations") d ms read (apart _ _ refl);
    finish = finish_stays draft (codes "annotations") d ms read (apart _ _ refl);
    updated = updated_stays draft (codes "annotations") d ms read (apart _ _ refl);
    timeout = timeout_stays draft (codes "annotations") d ms read (apart _ _ refl);
    generator = generator_stays draft (codes "annotations") d ms read (apart _ _ refl);
    no_null = null_stays_out draft (codes "annotations") d ms read some;
  }

  pub takes_start : (text : List ℕ) (time : Option ℕ) → time_of text ≡ Some time
      → IsDraftOf (record draft { start = time }) (put (codes "startsAt") (string text) ms)
  takes_start text time is =
      search (rules, labels_stay, apart, annotations_stay, here, finish_stays, updated_stays, timeout_stays, generator_stays, null_stays_out)

  pub takes_finish : (text : List ℕ) (time : Option ℕ) → time_of text ≡ Some time
      → IsDraftOf (record draft { end = time }) (put (codes "endsAt") (string text) ms)
  takes_finish text time is =
      search (rules, labels_stay, apart, annotations_stay, start_stays, here, updated_stays, timeout_stays, generator_stays, null_stays_out)

  pub takes_updated : (text : List ℕ) (time : Option ℕ) → time_of text ≡ Some time
      → IsDraftOf (record draft { updated = time }) (put (codes "updatedAt") (string text) ms)
  takes_updated text time is =
      search (rules, labels_stay, apart, annotations_stay, start_stays, finish_stays, here, timeout_stays, generator_stays, null_stays_out)

  pub takes_timeout : (flag : Bool)
      → IsDraftOf (record draft { timeout = flag }) (put (codes "timeout") (boolean flag) ms)
  takes_timeout flag =
      search (rules, labels_stay, apart, annotations_stay, start_stays, finish_stays, updated_stays, here, generator_stays, null_stays_out)

  pub takes_generator : (text kept : List ℕ) → kept ≡ text
      → IsDraftOf (record draft { generator = kept }) (put (codes "generatorURL") (string text) ms)
  takes_generator text kept is = record {
    labels = labels_stay draft (codes "generatorURL") (string text) ms read (apart _ _ refl);
    annotations = annotations_stay draft (codes "generatorURL") (string text) ms read (apart _ _ refl);
    start = start_stays draft (codes "generatorURL") (string text) ms read (apart _ _ refl);
    finish = finish_stays draft (codes "generatorURL") (string text) ms read (apart _ _ refl);
    updated = updated_stays draft (codes "generatorURL") (string text) ms read (apart _ _ refl);
    timeout = timeout_stays draft (codes "generatorURL") (string text) ms read (apart _ _ refl);
    generator = ap text_given (here (codes "generatorURL") (string text) ms) ∙ ap Some (sym is);
    no_null = null_stays_out draft (codes "generatorURL") (string text) ms read refl;
  }

  -- a member of another name changes nothing
  pub takes_other : (name : List ℕ) (d : Data) → unless_null d ≡ Some d
      → (codes "labels" ≡ name → ⊥) → (codes "annotations" ≡ name → ⊥)
      → (codes "startsAt" ≡ name → ⊥) → (codes "endsAt" ≡ name → ⊥)
      → (codes "updatedAt" ≡ name → ⊥) → (codes "timeout" ≡ name → ⊥)
      → (codes "generatorURL" ≡ name → ⊥)
      → IsDraftOf draft (put name d ms)
  takes_other name d some a b c e f g h =
      search (rules, labels_stay, annotations_stay, start_stays, finish_stays, updated_stays, timeout_stays, generator_stays, null_stays_out)

abbrev pub element : Draft → Labels → Postable
element draft labels = record {
  labels = labels;
  annotations = draft.annotations;
  start = draft.start;
  end = draft.end;
  generator = draft.generator;
}

-- the element of a draft, if these labels were read
abbrev pub made : Draft → Option Labels → Option Postable
made draft labels = option_map (element draft) labels

-- what was read of all members is the element
pub drafted : (draft : Draft) (ms : Members) → IsDraftOf draft ms → postable_of (object ms) ≡ made draft draft.labels
unfolding postable_of
drafted draft ms read = grind arith

-- ---- a whole alert

abbrev Pairs : Type 0
Pairs = List (List ℕ × List ℕ)

mapped : {A B : Type 0} (f : A → B) (o : Option A) (b : B) → option_map f o ≡ Some b → (a : A) × (o ≡ Some a) × (f a ≡ b)
mapped f None b is = cc
mapped f (Some a) b is = (a, refl, cc)

-- the pairs that labels were made of
labels_from : (o : Option Data) (ls : Labels) → option_and_then labels_of o ≡ Some ls
    → (pairs : Pairs) × (option_and_then texts_of o ≡ Some pairs) × (last_holds (filter has_value pairs) ≡ ls)
labels_from None ls is = cc
labels_from (Some d) ls is = mapped (λ (pairs : Pairs). last_holds (filter has_value pairs)) (texts_of d) ls is

abbrev pub whole : Draft → Labels → ℕ → ℕ → ℕ → Alert
whole draft labels start finish updated = record {
  labels = labels;
  annotations = draft.annotations;
  start = start;
  end = finish;
  updated = updated;
  timeout = draft.timeout;
  generator = draft.generator;
}

-- what was read of all members is the whole alert, if there are labels and the three moments
pub drafted_whole : (draft : Draft) (ms : Members) (labels : Labels) (start finish updated : ℕ) → IsDraftOf draft ms
    → draft.labels ≡ Some labels → draft.start ≡ Some start → draft.end ≡ Some finish → draft.updated ≡ Some updated
    → alert_in (object ms) ≡ Some (whole draft labels start finish updated)
unfolding alert_in
drafted_whole draft ms labels start finish updated read l s f u = grind arith

-- the labels of a draft have values
pub drafted_valued : (draft : Draft) (ms : Members) (labels : Labels) → IsDraftOf draft ms → draft.labels ≡ Some labels → HasValues labels
drafted_valued draft ms labels read l = grind (arith, labels_from, labels_valued)
