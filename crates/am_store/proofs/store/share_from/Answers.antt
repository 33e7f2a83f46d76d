use Rattle.std.proofs.Common.{rules}
use Rattle.am_store.proofs.Paging.{page_stored}
use Rattle.am_store.proofs.store.share_from.Goals as goal

pub loop-alert-init : goal.loop-alert-init
loop-alert-init c = search (rules, page_stored)
