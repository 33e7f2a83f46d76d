-- The body of a post that is given as a value of JSON, not as bytes (what the body of a request to
-- Alertmanager's API v2 is the text of).
use Rattle.std.specs.Prelude.{◌≡◌, ◌≤◌, ℕ, false, List, length, Some, MatchOption, Result}
use Rattle.serde_json.specs.Data.{Data, array, depth, Items}
use Rattle.serde_json.specs.Find.{as_str}
use Rattle.serde_json.specs.Read.{read, max_depth}
use Rattle.serde_json.specs.Written.{compact_text, has_float, IsInOrder}
use Rattle.am_posts.specs.Posts.{count, entries_of, IsArray, IsPostOf, postables_of, ReadsEach}
use Rattle.am_posts.specs.declared.body.Body.{Body}
use Rattle.am_posts.specs.declared.body.Body.TheVariants.{Text, Elements}
use Rattle.am_alert.specs.declared.post.Post.{Post}
use Rattle.am_alert.specs.declared.post.PostFault.{PostFault}
use Rattle.am_alert.specs.declared.post.TheConstants.{MAX_ALERTS, MAX_BYTES}

-- the text of a value with no white space between its parts, as `serde_json` writes it
pub record IsCompactText (d : Data) (text : List ℕ) : Type 0 where
  pub exact : has_float d ≡ false → text ≡ compact_text d
  pub in_order : IsInOrder text d
  pub reads_back : depth d ≤ max_depth → read text ≡ Some d

-- what a value is posted as: a text as its bytes; an array within the limits as its elements, where its
-- compact text is known; any other value as its compact text
abbrev pub IsBodyOf : Data → Body → Type 0
IsBodyOf d (Text text) = MatchOption (as_str d) (IsCompactText d text) (λ bytes. text ≡ bytes)
IsBodyOf d (Elements given) = (ds : Items) × (d ≡ array ds) × (given ≡ postables_of ds)
    × (count ds ≤ MAX_ALERTS) × (has_float d ≡ false) × (length (compact_text d) ≤ MAX_BYTES)

-- what reading a body answers
abbrev pub IsPostOfBody : ℕ → ℕ → Body → Result Post PostFault → Type 0
IsPostOfBody now timeout (Text bytes) post = IsPostOf now timeout bytes post
IsPostOfBody now timeout (Elements given) post = ReadsEach post (entries_of now timeout 0 given)

-- elements are read as the text of their array would be
abbrev pub ElementsAreReadAsTheirText : Type 0
ElementsAreReadAsTheirText = (now timeout : ℕ) (text : List ℕ) (ds : Items) (post : Result Post PostFault)
    → IsArray text ds → count ds ≤ MAX_ALERTS
    → IsPostOfBody now timeout (Elements (postables_of ds)) post → IsPostOf now timeout text post
