use Rattle.std.proofs.Common.{Some, length, rules, sym, ap, subst, ◌∙◌}
use Rattle.am_alert.specs.declared.post.Post.{Post}
use Rattle.am_cast.specs.Seats.{account_of}
use Rattle.am_cast.specs.Writers.{IsCutAs}
use Rattle.am_store.specs.Journal.{with_call}
use Rattle.am_store.specs.declared.call.Call.TheVariants.{Posted}
use Rattle.am_provider.specs.Posts.{AddsOwn}
use Rattle.am_provider.proofs.book.Book.post_prepared.Goals as goal

pub returns : goal.returns
returns g c =
    let cut = c.in_ok-place.ensures.cut in
    let post = c.into_parts-valid.ensures.post in
    record {
      posted = record {
        journal = c.in_ok-place.ensures.journal ∙ ap (λ (p : Post). with_call c.args.self.now.journal (Posted c.args.now p.valid)) post;
        valid = search rules;
        faults = ap (λ (p : Post). p.faults) post;
        place = search rules;
        own = subst (λ (p : Post). AddsOwn c.args.pass.now c.args.now p.valid (Some c.in_ok-place.field-0.place) c.post_some.new.pass) post c.in_ok-place.ensures.own.1;
        cut = record {
          lanes = cut.lanes;
          cuts = λ lane small. subst (IsCutAs (length c.args.self.now.log.tail.log) c.args.self.now.log.tail.places (account_of c.args.self.now.log lane) (account_of c.post_some.new.self.log lane)) (sym (c.from_flags.ensures.lanes lane)) (cut.cuts lane small);
          none = λ policy. c.from_flags.ensures.none (cut.none policy);
        };
      };
      last = c.in_ok-place.ensures.last;
      log = c.post_some.ensures.log;
      loads = λ _ _. c.post_some.ensures.loads;
      rest = c.post_some.ensures.rest;
      closed = search rules;
      refused = tt;
      err = tt;
    }
