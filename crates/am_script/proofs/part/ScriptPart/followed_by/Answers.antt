use Rattle.std.proofs.Common.{◌++◌, List, Err, sym, subst}
use Rattle.am_script.specs.declared.command.Line.{Line}
use Rattle.am_script.specs.declared.script.ScriptFault.TheVariants.{NoMemory}
use Rattle.am_script.specs.inside.Parts.{ReadsLines}
use Rattle.am_script.proofs.Parts.{cut_short, joined, stopped, without_fault}
use Rattle.am_script.proofs.part.ScriptPart.followed_by.Goals as goal

pub returns-then-is_err : goal.returns-then-is_err
returns-then-is_err c = λ first front back this next. stopped this (sym c.if-is_err.ensures.value) back

pub returns-in-Ok : goal.returns-in-Ok
returns-in-Ok c = λ first front back this next.
    let fine = without_fault c.args.self.end (sym c.if-is_err.ensures.value) in
    subst (λ (ls : List Line). ReadsLines first (front ++ back) ls c.args.rest.end) (sym c.in-Ok.ensures.items) (joined this fine back c.args.rest.lines.items c.args.rest.end next)

pub returns : goal.returns
returns c = λ first front back this next.
    let fine = without_fault c.args.self.end (sym c.if-is_err.ensures.value) in
    subst (λ (ls : List Line). ReadsLines first (front ++ back) ls (Err NoMemory)) (sym c.in-Err.ensures.items) (cut_short first front c.args.self.lines.items c.args.self.end this fine back)
