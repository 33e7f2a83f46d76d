-- The members of a command's JSON that several commands have: texts and moments, as am_posts reads them.
pub use Rattle.am_posts.specs.WholeAlerts.{moment_at, text_member}
use Rattle.std.specs.Prelude.{⊤, Option, Some, None, option_and_then, Result, Ok, Err, ◌≡◌}
use Rattle.am_script.specs.declared.command.LineFault.{LineFault}
use Rattle.am_script.specs.declared.command.LineFault.TheVariants.{BadLine, NoMemory}

-- one reading after another, each of which may fail
infixl 10 ◌>>=◌
abbrev pub ◌>>=◌ : {A B : Type 0} → Option A → (A → Option B) → Option B
o >>= f = option_and_then f o

-- what a reader returned is what the definition gives, seen as clauses see it, unless memory ran out
abbrev pub ReadsAs : {X Y : Type 0} → (X → Y) → Result X LineFault → Option Y → Type 0
ReadsAs view (Ok x) read = read ≡ Some (view x)
ReadsAs view (Err BadLine) read = read ≡ None
ReadsAs view (Err NoMemory) read = ⊤
