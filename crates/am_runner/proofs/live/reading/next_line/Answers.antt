use Rattle.am_runner.proofs.live.Lines.{last_is_next, line_goes_on, line_is_next, none_is_next}
use Rattle.am_runner.proofs.live.reading.next_line.Goals as goal

pub returns-in-LineFeed : goal.returns-in-LineFeed
returns-in-LineFeed g c =
    line_is_next (g.I.Read.remaining c.args.input.now) (g.I.Read.remaining c.loop-turn.input) (g.I.Read.remaining c.take_buffered.new.input) c.loop-turn.line c.in_ok-more.more c.in_ok-more.met c.loop-turn.invariant c.in_ok-more.ensures c.in-LineFeed.is

pub returns-in-End : goal.returns-in-End
returns-in-End g c =
    none_is_next (g.I.Read.remaining c.args.input.now) (g.I.Read.remaining c.loop-turn.input) (g.I.Read.remaining c.take_buffered.new.input) c.loop-turn.line c.in_ok-more.more c.in_ok-more.met c.loop-turn.invariant c.in_ok-more.ensures c.in-End.is
    (c.is_empty.ensures.none c.if-is_empty.true)

pub returns-in-End-2 : goal.returns-in-End-2
returns-in-End-2 g c =
    last_is_next (g.I.Read.remaining c.args.input.now) (g.I.Read.remaining c.loop-turn.input) (g.I.Read.remaining c.take_buffered.new.input) c.loop-turn.line c.in_ok-more.more c.in_ok-more.met c.loop-turn.invariant c.in_ok-more.ensures c.in-End-2.is
    (c.is_empty.ensures.some c.if-is_empty.false)

pub loop-turn-preserved : goal.loop-turn-preserved
loop-turn-preserved g c =
    line_goes_on (g.I.Read.remaining c.args.input.now) (g.I.Read.remaining c.loop-turn.input) (g.I.Read.remaining c.take_buffered.new.input) c.loop-turn.line c.in_ok-more.more c.in_ok-more.met c.loop-turn.invariant c.in_ok-more.ensures c.in-Neither.is
