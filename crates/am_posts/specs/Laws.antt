-- What follows for whoever posts from how a post is read.
use Rattle.std.specs.Prelude.{◌≡◌, ℕ, ◌+◌, ◌<◌, List, All, length, Ok}
use Rattle.am_alert.specs.declared.post.Post.{Post}
use Rattle.am_alert.specs.ValidAlerts.{IsWellFormed, indices_of, Rises}
use Rattle.am_posts.specs.Posts.{IsArray, IsPostOf, count}
use Rattle.serde_json.specs.Data.{Items}

-- the valid alerts of a post are well formed and were updated at the post's moment
abbrev pub ValidAlertsAreWellFormed : Type 0
ValidAlertsAreWellFormed =
    (now timeout : ℕ) (bytes : List ℕ) (post : Post) → IsPostOf now timeout bytes (Ok post)
    → All (λ alert. IsWellFormed alert × (alert.updated ≡ now)) post.valid

-- the invalid ones are listed in order, each with its index in the post
abbrev pub FaultsAreInOrder : Type 0
FaultsAreInOrder =
    (now timeout : ℕ) (bytes : List ℕ) (post : Post) (elements : Items)
    → IsPostOf now timeout bytes (Ok post) → IsArray bytes elements
    → Rises (indices_of post.faults) × All (λ index. index < count elements) (indices_of post.faults)

-- each element of the post is valid or invalid, and counted once
abbrev pub EachElementCounts : Type 0
EachElementCounts =
    (now timeout : ℕ) (bytes : List ℕ) (post : Post) (elements : Items)
    → IsPostOf now timeout bytes (Ok post) → IsArray bytes elements
    → length post.valid + length post.faults ≡ count elements
