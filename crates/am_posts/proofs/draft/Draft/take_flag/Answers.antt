use Rattle.std.proofs.Common.{◌≡◌, ℕ, List, codes, subst, sym, rules}
use Rattle.serde_json.specs.Data.{boolean, put}
use Rattle.am_posts.specs.inside.Drafts.{IsDraftOf}
use Rattle.am_posts.proofs.Drafts.{takes_timeout}
use Rattle.am_posts.proofs.draft.Draft.take_flag.Goals as goal

pub returns : goal.returns
returns c taken members read =
    let named : c.args.name.now ≡ codes "timeout" = search rules in
    subst (λ (name : List ℕ). IsDraftOf (record c.args.self.now { timeout = c.args.flag }) (put name (boolean c.args.flag) members)) (sym named)
    (takes_timeout c.args.self.now members read c.args.flag)
