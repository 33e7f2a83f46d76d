use Rattle.std.proofs.Common.{arith}
use Rattle.std.proofs.lemmas.Grind.{common_steps}
use Rattle.serde_json.proofs.Views.{view-Array, view-Object}
use Rattle.am_posts.proofs.Rooms.{array_room, object_room}
use Rattle.am_posts.proofs.body.+room.Goals as goal

pub room_left-returns-in_ok-checked_sub-in-Array-2 : goal.room_left-returns-in_ok-checked_sub-in-Array-2
room_left-returns-in_ok-checked_sub-in-Array-2 t c = grind (arith, common_steps, array_room, view-Array)

pub room_left-returns-in_ok-checked_sub-in-Object-2 : goal.room_left-returns-in_ok-checked_sub-in-Object-2
room_left-returns-in_ok-checked_sub-in-Object-2 t c = grind (arith, common_steps, object_room, view-Object)
