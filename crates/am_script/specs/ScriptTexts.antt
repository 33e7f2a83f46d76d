-- How the words of commands and refused scripts are printed.
use Rattle.std.specs.Prelude.{ℕ, List, ◌++◌, codes}
use Rattle.std.specs.Fmt.{decimal}
use Rattle.am_script.specs.declared.command.Verb.{Verb}
use Rattle.am_script.specs.declared.command.Verb.TheVariants as verb
use Rattle.am_script.specs.declared.script.Fault.{Fault}
use Rattle.am_script.specs.declared.script.Fault.TheVariants as fault
use Rattle.am_script.specs.declared.script.Refusal.{Refusal}

-- the word of a command
abbrev pub verb_text : Verb → List ℕ
verb_text verb.Post = codes "post"
verb_text verb.Put = codes "put"
verb_text verb.Subscribe = codes "subscribe"
verb_text verb.Read = codes "read"
verb_text verb.Leave = codes "leave"
verb_text verb.Collect = codes "collect"
verb_text verb.Take = codes "take"
verb_text verb.Close = codes "close"
verb_text verb.Trim = codes "trim"
verb_text verb.Compact = codes "compact"
verb_text verb.Groups = codes "groups"
verb_text verb.Sweep = codes "sweep"
verb_text verb.Forget = codes "forget"
verb_text verb.Mutes = codes "mutes"
verb_text verb.Stored = codes "stored"
verb_text verb.Get = codes "get"
verb_text verb.Routes = codes "routes"
verb_text verb.Route = codes "route"

-- what is wrong with a line of a script
abbrev pub fault_text : Fault → List ℕ
fault_text fault.BadLine = codes "P1 BadLine"
fault_text fault.BadName = codes "P2 BadName"
fault_text fault.TooLarge = codes "P3 TooLarge"

-- a refused script
abbrev pub refusal_text : Refusal → List ℕ
refusal_text refusal =
    codes "script line " ++ (decimal refusal.number ++ (codes " " ++ fault_text refusal.fault))
