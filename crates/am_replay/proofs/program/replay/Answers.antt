use Rattle.std.proofs.Common.{subst, sym, string_bytes}
use Rattle.std.specs.Io.KnownBytes.{Appends}
use Rattle.am_script.specs.Outputs.{AppendsBeginning}
use Rattle.am_replay.specs.Replays.{IsReplay}
use Rattle.am_command_line.specs.declared.status.Status.{Status}
use Rattle.am_replay.proofs.Replays.{cut_short, replayed}
use Rattle.am_replay.proofs.program.replay.Goals as goal
use Rattle.am_replay.proofs.program.replay.Goals.{in-Ok-write_text, in-Err-write_text}

pub returns : goal.returns
returns g c =
    let input = g.I.Read.remaining c.args.input.now in
    let old = g.O.Write.contents c.args.out.now in
    let new = g.O.Write.contents c.write_text.new.out in
    let text = c.in-Ok.text.items in
    let printout = c.in-Ok-printout_of.printout in
    let output = string_bytes printout.output in
    let same = c.as_bytes.ensures.value in
    elim c.match-write_text.branch [
      | in-Ok-write_text w ↦ subst (λ (status : Status). IsReplay c.args.arguments input old status new) (sym w.status-is)
          (replayed c.args.arguments input old new text output printout.status c.in-Ok.ensures.text c.in-Ok-printout_of.ensures (subst (Appends old new) same w.in-Ok-write_text.ensures.written))
      | in-Err-write_text w ↦ subst (λ (status : Status). IsReplay c.args.arguments input old status new) (sym w.status-is)
          (cut_short c.args.arguments input old new text output printout.status c.in-Ok.ensures.text c.in-Ok-printout_of.ensures (subst (AppendsBeginning old new) same w.in-Err-write_text.ensures.written))
    ]
