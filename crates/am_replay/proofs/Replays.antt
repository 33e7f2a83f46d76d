-- Facts about the words of specs/Replays.antt, and of specs/Runs.antt below it.
use Rattle.std.proofs.Common.{◌≡◌, ℕ, Bool, List, [], true, false, Option, Some, None, Result, Ok, Err, IfOk, ap, sym, subst, refl, ◌∙◌}
use Rattle.std.specs.Io.KnownBytes.{Appends, Keeps}
use Rattle.am_provider.specs.declared.settled.Settled.{Settled}
use Rattle.am_runner.specs.Sessions.{setting_of}
use Rattle.am_command_line.specs.declared.arguments.Arguments.{Arguments}
use Rattle.am_replay.specs.Printing.{transcript_text, ran_out_of_memory}
use Rattle.am_replay.specs.Replays.{ComesTo, IsPrinted, IsReplay, no_config, ran, refused, runs_in_order, status_of, too_long}
use Rattle.am_replay.specs.Runs.{IsRun}
use Rattle.am_config.specs.declared.config.Config.{Config}
use Rattle.am_command_line.specs.FirstLines.{IsFirstLine}
use Rattle.am_command_line.specs.declared.first_line.FirstLine.TheVariants.{Read}
use Rattle.am_replay.specs.declared.transcript.Transcript.{Transcript}
use Rattle.am_script.specs.Inputs.{IsReadOf}
use Rattle.am_script.specs.Outputs.{AppendsBeginning}
use Rattle.am_script.specs.Script.{Checks, lines_of}
use Rattle.am_script.specs.declared.command.Line.{Line}
use Rattle.am_command_line.specs.declared.status.Status.{Status}
use Rattle.am_command_line.specs.declared.status.Status.TheVariants.{Refused, WriteFailed}

pub if_ok_both : {T E : Type 0} {P Q S : T → Type 0} (r : Result T E) → IfOk r P → IfOk r Q → ((x : T) → P x → Q x → S x) → IfOk r S
if_ok_both (Ok x) one two f = f x one two
if_ok_both (Err e) one two f = tt

pub refused_so : {arguments : Arguments} (text words output : List ℕ) (status : Status) → ComesTo arguments text Refused words → status ≡ Refused → output ≡ words → ComesTo arguments text status output
refused_so {arguments} text words output status comes ends said =
    subst (λ (s : Status). ComesTo arguments text s output) (sym ends) (subst (λ (o : List ℕ). ComesTo arguments text Refused o) (sym said) comes)

-- a script that was run
pub comes : (arguments : Arguments) (text : List ℕ) (lines : List Line) (config : Config) (transcript : Transcript) (settled : Settled) (status : Status) (output : List ℕ)
    → IsFirstLine text (Read config) → Checks 1 [] (lines_of text) (Ok lines)
    → IsRun (runs_in_order arguments.mode) config (setting_of arguments.places arguments.full config.resolve_timeout) lines transcript settled
    → output ≡ transcript_text arguments.form transcript.lines.items transcript.answers.items transcript.counts
    → status ≡ status_of (ran_out_of_memory transcript.answers.items) → ComesTo arguments text status output
comes arguments text lines config transcript settled status output first checks runs said ends =
    subst (λ (s : Status). ComesTo arguments text s output) (sym ends)
    (subst (λ (o : List ℕ). ComesTo arguments text (status_of (ran_out_of_memory transcript.answers.items)) o) (sym (said ∙ ap (λ (all : List Line). transcript_text arguments.form all transcript.answers.items transcript.counts) runs.script))
    (ran config transcript settled first checks runs))

pub keeps_same : (known : Option (List ℕ)) → Keeps known known
keeps_same None = tt
keeps_same (Some bytes) = refl

ended : {arguments : Arguments} {input old new : Option (List ℕ)} (out_of_memory : Bool) → IsPrinted arguments input old new (status_of out_of_memory) → IsReplay arguments input old (status_of out_of_memory) new
ended true printed = printed
ended false printed = printed

printed_so : {arguments : Arguments} {input old new : Option (List ℕ)} {text output : List ℕ} {status : Status} → ComesTo arguments text status output → IsPrinted arguments input old new status → IsReplay arguments input old status new
printed_so (too_long first) printed = printed
printed_so (no_config fault first) printed = printed
printed_so (refused config refusal first checks) printed = printed
printed_so (ran config transcript settled first checks runs) printed = ended (ran_out_of_memory transcript.answers.items) printed

-- all that a script comes to was printed
pub replayed : (arguments : Arguments) (input old new : Option (List ℕ)) (text output : List ℕ) (status : Status) → IsReadOf input text → ComesTo arguments text status output → Appends old new output → IsReplay arguments input old status new
replayed arguments input old new text output status read so printed = printed_so so (record { text = text; output = output; read = read; comes = so; printed = printed })

-- a write of it failed
pub cut_short : (arguments : Arguments) (input old new : Option (List ℕ)) (text output : List ℕ) (status : Status) → IsReadOf input text → ComesTo arguments text status output → AppendsBeginning old new output → IsReplay arguments input old WriteFailed new
cut_short arguments input old new text output status read so printed = record { text = text; status = status; output = output; read = read; comes = so; printed = printed }
