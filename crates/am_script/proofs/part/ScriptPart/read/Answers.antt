use Rattle.std.proofs.Common.{List, Bor, ℕ, Result, sym, subst, ◌∙◌, arith}
use Rattle.std.proofs.Math.ListN.{drop_of_length-le}
use Rattle.am_script.specs.declared.script.ScriptFault.{ScriptFault}
use Rattle.am_script.specs.inside.Parts.{ReadsLines, bytes_of_lines}
use Rattle.am_script.proofs.Parts.{GoesOn, all_read, line_added, line_faulty}
use Rattle.am_script.proofs.part.ScriptPart.read.Goals as goal

pub returns-in-Err : goal.returns-in-Err
returns-in-Err c =
    line_faulty c.args.first (bytes_of_lines c.args.lines.now) c.loop-bytes.number c.args.lines.now c.loop-bytes.bytes-index c.loop-bytes-test.true _
    c.loop-bytes.part.lines.items c.add.new.self.lines.items c.loop-bytes.invariant.2 c.in-Err.fault c.in-Err.ensures.lines

pub loop-bytes-preserved : goal.loop-bytes-preserved
loop-bytes-preserved c = (
  omega arith,
  c.add.ensures.end ∙ c.loop-bytes.invariant.1,
  line_added c.args.first (bytes_of_lines c.args.lines.now) c.loop-bytes.number c.args.lines.now c.loop-bytes.bytes-index c.loop-bytes-test.true _
      c.loop-bytes.part.lines.items c.add.new.self.lines.items c.loop-bytes.invariant.2 c.in_default.ensures.lines,
)

pub returns : goal.returns
returns c =
    let lines = c.args.lines.now in
    let items = c.loop-bytes.part.lines.items in
    let none = drop_of_length-le lines c.loop-bytes-test.false in
    let last = subst (λ (ls : List (Bor (List ℕ))). GoesOn c.args.first (bytes_of_lines lines) c.loop-bytes.number (bytes_of_lines ls) items) none c.loop-bytes.invariant.2 in
    subst (λ (end : Result (Unit {0}) ScriptFault). ReadsLines c.args.first (bytes_of_lines lines) items end) (sym c.loop-bytes.invariant.1) (all_read c.args.first (bytes_of_lines lines) c.loop-bytes.number items last)
