-- An element of a post, or a whole alert, while its members are read, one after another.
use Rattle.std.specs.Prelude.{◌≡◌, List, ℕ, Bool, false, Option, Some, codes, option_and_then}
use Rattle.std.specs.FinMap.{empty}
use Rattle.serde_json.specs.Data.{Members, boolean, object, put, string}
use Rattle.serde_json.specs.Find.{as_bool, get_member}
use Rattle.am_alert.specs.GivenMembers.{given}
use Rattle.am_posts.specs.Postables.{annotations_of, if_given, labels_of, postable_of, text_at}
use Rattle.am_posts.specs.Postables.{time_at}
use Rattle.am_posts.specs.declared.draft.Draft.{Draft}
use Rattle.am_posts.specs.declared.postable.Postable.{Postable}

-- the draft has what an element with these members gives, of which none is null
pub record IsDraftOf (draft : Draft) (members : Members) : Type 0 where
  pub labels : option_and_then labels_of (given (codes "labels") (object members)) ≡ draft.labels
  pub annotations : if_given empty annotations_of (given (codes "annotations") (object members))
      ≡ Some draft.annotations
  pub start : time_at (codes "startsAt") (object members) ≡ Some draft.start
  pub finish : time_at (codes "endsAt") (object members) ≡ Some draft.end
  pub updated : time_at (codes "updatedAt") (object members) ≡ Some draft.updated
  pub timeout : if_given false as_bool (given (codes "timeout") (object members)) ≡ Some draft.timeout
  pub generator : text_at (codes "generatorURL") (object members) ≡ Some draft.generator
  pub no_null : (name : List ℕ) → given name (object members) ≡ get_member name members

-- with one member more, a text, the draft has what there is then
abbrev pub TakesText : List ℕ → List ℕ → Draft → Draft → Type 0
TakesText name text was is =
    (members : Members) → IsDraftOf was members → IsDraftOf is (put name (string text) members)

-- the same of a member that is true or false
abbrev pub TakesFlag : List ℕ → Bool → Draft → Draft → Type 0
TakesFlag name flag was is =
    (members : Members) → IsDraftOf was members → IsDraftOf is (put name (boolean flag) members)

-- the element of these members, if it has labels
abbrev pub IsDrafted : Members → Option Postable → Type 0
IsDrafted members element = postable_of (object members) ≡ element
