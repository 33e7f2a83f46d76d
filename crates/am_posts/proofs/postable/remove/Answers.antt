use Rattle.std.proofs.Common.{ap, ◌∙◌}
use Rattle.std.specs.Prelude.{option_map}
use Rattle.serde_json.specs.Find.{get_member}
use Rattle.serde_json.specs.View.{view, members_view}
use Rattle.serde_json.proofs.Views.{view-lookup}
use Rattle.am_posts.proofs.Members.{others_stay}
use Rattle.am_posts.proofs.postable.remove.Goals as goal

pub returns-clause-member : goal.returns-clause-member
returns-clause-member c = ap (option_map view) c.remove.ensures.value ∙ view-lookup c.args.name.now c.args.members.now.entries

pub returns-clause-others : goal.returns-clause-others
returns-clause-others c other apart =
    ap (λ entries. get_member other (members_view entries)) c.remove.ensures.entries ∙ others_stay c.args.name.now other c.args.members.now.entries apart
