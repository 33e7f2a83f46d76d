use Rattle.am_threads.proofs.laws.turn_laws.Goals as goal

pub returns : goal.returns
returns c = λ turns at later began ended began_then ended_then less first second. second.1 at ended less first.0
