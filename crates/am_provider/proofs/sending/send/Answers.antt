use Rattle.std.proofs.Common.{◌≡◌, ◌∙◌, length, sym, subst}
use Rattle.am_cast.specs.Seats.{account_of}
use Rattle.am_cast.specs.Writers.{IsCutAs}
use Rattle.am_provider.specs.declared.answers.Policy.TheVariants.{Refuse, Cut}
use Rattle.am_provider.proofs.Uncut.{none_named}
use Rattle.am_provider.proofs.sending.send.Goals as goal

pub returns-in-Ok-clause-sent : goal.returns-in-Ok-clause-sent
returns-in-Ok-clause-sent g c =
    let k = c.in-Ok.ensures.ok in
    record {
      next = k.0;
      still_open = c.requires.open;
      batch = (let x = k.1 in (x.0, x.1 ∙ c.of-post.ensures, x.2, x.3, x.4));
      known = c.in-Ok.ensures.known;
      lanes = λ lane small. (c.publish_harvested.ensures.lanes lane small).0;
      cuts = λ lane small. subst (IsCutAs (length c.args.writer.now.tail.log) c.args.writer.now.tail.places (account_of c.args.writer.now lane) (account_of c.publish_harvested.new.self lane)) (sym (none_named lane)) (c.publish_harvested.ensures.lanes lane small).1;
      kept = λ policy lane. none_named lane;
    }

pub returns-in-Ok-publish_cutting-clause-sent : goal.returns-in-Ok-publish_cutting-clause-sent
returns-in-Ok-publish_cutting-clause-sent g c =
    let k = c.in-Ok-publish_cutting.ensures.ok in
    record {
      next = k.0;
      still_open = k.1;
      batch = (let x = k.2 in (x.0, x.1 ∙ c.of-post.ensures, x.2, x.3, x.4));
      known = c.in-Ok-publish_cutting.ensures.known;
      lanes = c.publish_cutting.ensures.lanes;
      cuts = c.in-Ok-publish_cutting.ensures.cut;
      kept = λ policy. absurd (let no : Cut ≡ Refuse = sym c.in-Cut.is ∙ policy in cc);
    }
