use Rattle.am_cast.specs.Core.{state_of}
use Rattle.am_cast.proofs.Shown.{is_sound, freed_for}
use Rattle.am_cast.proofs.laws.a_needed_place_is_not_freed_by_the_writer.Goals as goal

pub returns : goal.returns
returns g c s r id u q posters seat_of i at is needed freed = c.a_needed_place_is_not_freed.ensures (state_of posters seat_of r) i (is_sound g.R.Keyed.key s r posters seat_of) needed ((freed_for g.R.Keyed.key s r id u q posters seat_of i at is).1 freed)
