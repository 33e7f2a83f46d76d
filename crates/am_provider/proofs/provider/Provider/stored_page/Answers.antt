use Rattle.std.proofs.Common.{refl}
use Rattle.am_provider.proofs.Answering.{page_whole, sees_none}
use Rattle.am_provider.proofs.Recording.{call_number, stored_whole}
use Rattle.am_provider.proofs.provider.Provider.stored_page.Goals as goal

pub returns-clause-sees : goal.returns-clause-sees
returns-clause-sees g c =
    let page = c.stored_page.ensures in
    sees_none c.args.caller.now.front c.show.new.to c.recorded.inside.history _ c.show.ensures.seen c.show.ensures.to (
      page_whole c.args.from c.args.most _ _ c.recorded.inside.history c.stored_page.result page.alerts page.stored page.calls
          (stored_whole c.recorded.inside.book c.recorded.inside.history c.recorded.invariant.0 c.kept.ensures) (call_number c.recorded.inside.book c.recorded.inside.history c.recorded.invariant.0),
      refl,
    )
