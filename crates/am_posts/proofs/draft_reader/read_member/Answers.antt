use Rattle.std.proofs.Common.{◌≡◌, ◌∙◌, ℕ, List, Some, ap, codes, refl, subst, sym, rules}
use Rattle.std.specs.Prelude.{filter, option_map}
use Rattle.serde_json.specs.Data.{object, put}
use Rattle.am_labels.specs.LabelSets.{last_holds}
use Rattle.am_posts.specs.Postables.{annotations_of, has_value, labels_of}
use Rattle.am_posts.specs.inside.Drafts.{IsDraftOf}
use Rattle.am_posts.specs.inside.Streams.{AreTextsOf}
use Rattle.am_posts.proofs.Drafts.{takes_annotations, takes_labels}
use Rattle.am_posts.proofs.draft_reader.read_member.Goals as goal

pub returns-in_ok-labels_of_pairs-clause-read : goal.returns-in_ok-labels_of_pairs-clause-read
returns-in_ok-labels_of_pairs-clause-read c taken =
    let was = c.args.draft.now in
    let labels = c.in_ok-labels_of_pairs.field-0 in
    let named : c.args.name.now ≡ codes "labels" = search rules in
    let texts : AreTextsOf c.args.depth c.args.reader.now c.read_texts.new.reader c.args.room.now.left c.read_texts.new.room.left c.read_texts.new.pairs = search rules in
    let is : labels_of (object texts.0) ≡ Some labels =
    ap (option_map (λ pairs. last_holds (filter has_value pairs))) texts.3 ∙ ap Some (sym c.in_ok-labels_of_pairs.ensures) in (
      object texts.0,
      texts.1,
      texts.2,
      λ members read. subst (λ (name : List ℕ). IsDraftOf (record was { labels = Some labels }) (put name (object texts.0) members)) (sym named)
          (takes_labels was members read (object texts.0) labels refl is),
    )

pub returns-in_ok-draft-clause-read : goal.returns-in_ok-draft-clause-read
returns-in_ok-draft-clause-read c taken =
    let was = c.args.draft.now in
    let annotations = c.in_ok-draft.field-0 in
    let named : c.args.name.now ≡ codes "annotations" = search rules in
    let texts : AreTextsOf c.args.depth c.args.reader.now c.read_texts-then-eq-2.new.reader c.args.room.now.left c.read_texts-then-eq-2.new.room.left c.read_texts-then-eq-2.new.pairs = search rules in
    let is : annotations_of (object texts.0) ≡ Some annotations = ap (option_map last_holds) texts.3 ∙ ap Some (sym c.in_ok-draft.ensures) in (
      object texts.0,
      texts.1,
      texts.2,
      λ members read. subst (λ (name : List ℕ). IsDraftOf (record was { annotations = annotations }) (put name (object texts.0) members)) (sym named)
          (takes_annotations was members read (object texts.0) annotations refl is),
    )
