use Rattle.am_cast.proofs.Cursors.{shows_next}
use Rattle.am_cast.proofs.cursor.Cursor.advance_seen.Goals as goal

pub returns-then-show-clause-moves : goal.returns-then-show-clause-moves
returns-then-show-clause-moves g c = let y = c.show.ensures.yes c.if-show.true in (shows_next c.args.self.now c.show.new.self y.0 y.1 y.2, tt)
