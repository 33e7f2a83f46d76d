-- What is given of the elements of a post.
use Rattle.std.specs.Prelude.{◌≡◌, ◌≤◌, List, Option, length}
use Rattle.serde_json.specs.Data.{Items}
use Rattle.am_posts.specs.Posts.{postables_of}
use Rattle.am_posts.specs.declared.postable.Postable.{Postable}
use Rattle.am_alert.specs.declared.post.TheConstants.{MAX_ALERTS}

-- it is that of some elements, no more than a post may have
abbrev pub IsGiven : List (Option Postable) → Type 0
IsGiven given = (length given ≤ MAX_ALERTS) × ((ds : Items) × (given ≡ postables_of ds))
