use Rattle.std.proofs.Common.{◌≡◌, ℕ, List, Some, codes, refl, subst, sym, rules}
use Rattle.serde_json.specs.Data.{put, string}
use Rattle.am_alert.specs.TimeTexts.{time_of}
use Rattle.am_posts.specs.inside.Drafts.{IsDraftOf}
use Rattle.am_posts.proofs.Drafts.{takes_start, takes_finish, takes_generator, takes_other, takes_updated}
use Rattle.am_posts.proofs.draft.Draft.take.Goals as goal

pub returns-then-eq : goal.returns-then-eq
returns-then-eq c taken members read =
    let named : c.args.name.now ≡ codes "startsAt" = search rules in
    let is : time_of c.args.text.now ≡ Some c.in-Some.start = search rules in
    subst (λ (name : List ℕ). IsDraftOf (record c.args.self.now { start = c.in-Some.start }) (put name (string c.args.text.now) members)) (sym named)
    (takes_start c.args.self.now members read c.args.text.now c.in-Some.start is)

pub returns-then-eq-2 : goal.returns-then-eq-2
returns-then-eq-2 c taken members read =
    let named : c.args.name.now ≡ codes "endsAt" = search rules in
    let is : time_of c.args.text.now ≡ Some c.in-Some-2.end = search rules in
    subst (λ (name : List ℕ). IsDraftOf (record c.args.self.now { end = c.in-Some-2.end }) (put name (string c.args.text.now) members)) (sym named)
    (takes_finish c.args.self.now members read c.args.text.now c.in-Some-2.end is)

pub returns-then-eq-3 : goal.returns-then-eq-3
returns-then-eq-3 c taken members read =
    let named : c.args.name.now ≡ codes "updatedAt" = search rules in
    let is : time_of c.args.text.now ≡ Some c.in-Some-3.updated = search rules in
    subst (λ (name : List ℕ). IsDraftOf (record c.args.self.now { updated = c.in-Some-3.updated }) (put name (string c.args.text.now) members)) (sym named)
    (takes_updated c.args.self.now members read c.args.text.now c.in-Some-3.updated is)

pub returns-then-eq-4 : goal.returns-then-eq-4
returns-then-eq-4 c taken members read =
    let named : c.args.name.now ≡ codes "generatorURL" = search rules in
    let is : c.in_ok-self.field-0 ≡ c.args.text.now = search rules in
    subst (λ (name : List ℕ). IsDraftOf (record c.args.self.now { generator = c.in_ok-self.field-0 }) (put name (string c.args.text.now) members)) (sym named)
    (takes_generator c.args.self.now members read c.args.text.now c.in_ok-self.field-0 is)

pub returns : goal.returns
returns c taken members read =
    takes_other c.args.self.now members read c.args.name.now (string c.args.text.now) refl (λ same. c.requires.not_labels (sym same)) (λ same. c.requires.not_annotations (sym same))
    (λ same. search rules) (λ same. search rules) (λ same. search rules) (λ same. search rules) (λ same. search rules)
