use Rattle.std.proofs.Common.{◌≢◌, ◌+◌, ◌<◌, All, length, sym, subst, arith, le_refl, take_all}
use Rattle.std.proofs.lemmas.Result.{IfOk-weaker}
use Rattle.std.specs.Io.KnownBytes.{Consumes}
use Rattle.std.specs.Io.BufRead.{FillKeeps}
use Rattle.std.proofs.BufReadLemmas.{Consumes_shown}
use Rattle.am_runner.specs.live.inside.Buffered.{Gives}
use Rattle.am_runner.specs.declared.live.reading.Met.{Met}
use Rattle.am_runner.proofs.live.Lines.{gives_all, gives_fed, gives_last, gives_none, plain_before, taken_with_feed}
use Rattle.am_runner.proofs.live.reading.take_buffered.Goals as goal
use Rattle.am_runner.proofs.live.reading.take_buffered.Goals.{then-count-eq0, else-count-eq0}

pub returns-in-Err : goal.returns-in-Err
returns-in-Err g c =
    let old = g.I.Read.remaining c.args.input.now in
    let rested = g.I.Read.remaining c.fill_buf.follows.lender-at-none in
    let limit = g.I.BufRead.consumable_len c.fill_buf.follows.lender-at-none in
    let filled = subst (FillKeeps old rested limit) c.in-Err.is c.fill_buf.follows.holds-at-none in
    IfOk-weaker c.after.result _ _ (λ taken so. gives_none old rested c.args.line taken filled.0 so.0 so.1) c.after.ensures

pub returns-in-Some : goal.returns-in-Some
returns-in-Some g c =
    let shown = c.in-Ok.buffered.now in
    let end = c.in-Some.end in
    let first = c.in-Some.ensures in
    let within : end < length shown = first.0.high in
    let old = g.I.Read.remaining c.args.input.now in
    let rested = g.I.Read.remaining c.fill_buf.follows.lender-at-none in
    let new = g.I.Read.remaining c.consume.new.self in
    let limit = g.I.BufRead.consumable_len c.fill_buf.follows.lender-at-none in
    let filled = subst (FillKeeps old rested limit) c.in-Ok.is c.fill_buf.follows.holds-at-none in
    let moved = Consumes_shown old rested new limit shown (end + 1) (omega (arith, within)) c.in-Ok.ensures.front c.in-Ok.ensures.end filled.0 filled.1 c.consume.ensures.bytes in
    gives_fed old new c.args.line c.with-more.result _ (plain_before shown end (omega (arith, within)) first.0.before) c.with-more.ensures
    (subst (Consumes old new) (taken_with_feed shown end within first.1) moved.0)

pub returns-after-count-eq0 : goal.returns-after-count-eq0
returns-after-count-eq0 g c =
    let shown = c.in-Ok.buffered.now in
    let old = g.I.Read.remaining c.args.input.now in
    let rested = g.I.Read.remaining c.fill_buf.follows.lender-at-none in
    let new = g.I.Read.remaining c.consume-in-None.new.self in
    let limit = g.I.BufRead.consumable_len c.fill_buf.follows.lender-at-none in
    let filled = subst (FillKeeps old rested limit) c.in-Ok.is c.fill_buf.follows.holds-at-none in
    let moved = Consumes_shown old rested new limit shown (length shown) (le_refl _) c.in-Ok.ensures.front c.in-Ok.ensures.end filled.0 filled.1 c.consume-in-None.ensures.bytes in
    let all = take_all (length shown) shown (le_refl _) in
    let plain = subst (All (λ x. x ≢ 10)) all (plain_before shown (length shown) (le_refl _) c.in-None.ensures) in
    let read = subst (Consumes old new) all moved.0 in
    let line = c.args.line in
    let more = c.with-more-in-None.result in
    elim c.if-count-eq0.branch [
      | then-count-eq0 w ↦ subst (λ (met : Met). Gives line old new (more, met)) (sym w.result-is) (gives_last old new line more shown plain c.with-more-in-None.ensures read (moved.1 w.if-count-eq0.true))
      | else-count-eq0 w ↦ subst (λ (met : Met). Gives line old new (more, met)) (sym w.result-is) (gives_all old new line more shown plain c.with-more-in-None.ensures read)
    ]
