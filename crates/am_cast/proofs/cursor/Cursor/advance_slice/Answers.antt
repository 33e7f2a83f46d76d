use Rattle.am_cast.proofs.Rests.{shows_rest}
use Rattle.am_cast.proofs.cursor.Cursor.advance_slice.Goals as goal

pub returns-in-One-clause-moves : goal.returns-in-One-clause-moves
returns-in-One-clause-moves g c =
    let shown = c.show_rest.ensures in
    shows_rest c.args.self.now c.advance.new.self c.show_rest.new.self c.show_rest.result c.in-One.ensures.moves shown.last.0 shown.last.1 shown.all
