-- The subscribed names, each as its kind, that follow a script's lines.
use Rattle.std.specs.Prelude.{◌≡◌, ℕ, List}
use Rattle.std.specs.Ordering.{nat_cmp, ordering_then}
use Rattle.std.specs.declared.cmp.Ordering.{Ordering}
use Rattle.std.specs.BTreeMap.{BTreeMap, get}
use Rattle.am_labels.specs.Texts.{text_cmp}
use Rattle.am_script.specs.Script.{subscribed_as}
use Rattle.am_script.specs.declared.command.Line.{Line}
use Rattle.am_script.specs.declared.kind.Kind.{Kind}

-- the order of a thread's names: by thread, then by the bytes of the name
abbrev pub name_cmp : ℕ × List ℕ → ℕ × List ℕ → Ordering
name_cmp p q = ordering_then (nat_cmp p.0 q.0) (text_cmp p.1 q.1)

-- the map has exactly the names that are subscribed after the lines, each with its kind
abbrev pub HoldsNames : BTreeMap (ℕ × List ℕ) Kind → List Line → Type 0
HoldsNames names lines = (thread : ℕ) (name : List ℕ)
    → get name_cmp names (thread, name) ≡ subscribed_as lines thread name
