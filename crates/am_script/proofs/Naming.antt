-- The map of names follows a line that subscribes a name, leaves it or uses it.
use Rattle.std.proofs.Common.{◌≡◌, ℕ, Bool, true, false, cond, ◌&&◌, nat_eq, List, [], ◌∷◌, ◌++◌, Option, Some, None, is_some, is_none, IfNone, Result, Ok, Err, IfOk, refl, ap, sym, ◌∙◌}
use Rattle.std.specs.Bool.{OnTrue, OnFalse}
use Rattle.std.specs.Ordering.{is_eq, nat_cmp}
use Rattle.std.specs.Cmp.{both_tied, unsigned_ties}
use Rattle.std.specs.Cmp.Lexicographic.{texts_ties}
use Rattle.std.specs.Str.{bytes_eq}
use Rattle.std.specs.Map.{lookup}
use Rattle.std.specs.BTreeMap.{BTreeMap, is_at, get, IsUnchanged, Updates}
use Rattle.std.proofs.lemmas.List.Sums.{fold_push}
use Rattle.am_labels.specs.Texts.{text_cmp}
use Rattle.am_script.specs.Names.{HoldsNames, name_cmp}
use Rattle.am_script.specs.Script.{is_named_well, is_well_named, subscribed_after, subscribed_as}
use Rattle.am_script.specs.declared.command.Command.{Command}
use Rattle.am_script.specs.declared.command.Command.TheVariants.{Subscribe, Read, Leave}
use Rattle.am_script.specs.declared.command.Line.{Line}
use Rattle.am_script.specs.declared.kind.Kind.{Kind}

-- one line more
subscribed_as-push : (lines : List Line) (line : Line) (thread : ℕ) (name : List ℕ) → subscribed_as (lines ++ line ∷ []) thread name ≡ subscribed_after (nat_eq line.thread thread) name (subscribed_as lines thread name) line.command
subscribed_as-push lines line thread name = fold_push (λ before (one : Line). subscribed_after (nat_eq one.thread thread) name before one.command) None lines line

-- names compare equal where the threads and the texts are the same
same_name : (thread other : ℕ) (name text : List ℕ) → is_eq (name_cmp (thread, name) (other, text)) ≡ (nat_eq thread other && bytes_eq name text)
same_name thread other name text = sym (both_tied _ _ (nat_cmp thread other) (text_cmp name text) (unsigned_ties thread other) (texts_ties name text))

-- the map with a value at the name of a line's thread, after a command that gives the name this value
module _ (lines : List Line) (line : Line) (name : List ℕ) (value : Option Kind) (command : Command) (is : line.command ≡ command)
    (gives : (here : Bool) (text : List ℕ) (before : Option Kind) → subscribed_after here text before command ≡ cond (here && bytes_eq name text) value before) where
  updated : (old new : BTreeMap (ℕ × List ℕ) Kind) → Updates name_cmp old new (line.thread, name) value → HoldsNames old lines → HoldsNames new (lines ++ line ∷ [])
  updated old new updates holds = λ thread text.
      updates.0 (thread, text)
      ∙ (ap (λ b. cond b value (get name_cmp old (thread, text))) (same_name line.thread thread name text)
      ∙ (ap (λ before. cond (nat_eq line.thread thread && bytes_eq name text) value before) (holds thread text)
      ∙ (sym (gives (nat_eq line.thread thread) text (subscribed_as lines thread text))
      ∙ (sym (ap (λ (c : Command). subscribed_after (nat_eq line.thread thread) text (subscribed_as lines thread text) c) is)
      ∙ sym (subscribed_as-push lines line thread text)))))

  change_follows : (fits : Bool) (old new : BTreeMap (ℕ × List ℕ) Kind)
      → fits ≡ is_named_well (subscribed_as lines line.thread) command
      → OnTrue fits (Updates name_cmp old new (line.thread, name) value)
      → OnFalse fits (IsUnchanged old new)
      → HoldsNames old lines
      → (fits ≡ is_well_named lines line) × HoldsNames new (cond fits (lines ++ line ∷ []) lines)
  change_follows fits old new well updates same holds = (well ∙ ap (λ (c : Command). is_named_well (subscribed_as lines line.thread) c) (sym is), after fits updates same)
    where
      after : (b : Bool) → OnTrue b (Updates name_cmp old new (line.thread, name) value) → OnFalse b (IsUnchanged old new) → HoldsNames new (cond b (lines ++ line ∷ []) lines)
      after true updates same = updated old new updates holds
      after false updates same = λ thread text. ap (λ entries. lookup (is_at (name_cmp (thread, text))) entries) same ∙ holds thread text

-- what following a line answers and leaves
abbrev Follows : BTreeMap (ℕ × List ℕ) Kind → BTreeMap (ℕ × List ℕ) Kind → Line → Bool → Type 0
Follows old new line fits = (earlier : List Line) → HoldsNames old earlier
    → (fits ≡ is_well_named earlier line) × HoldsNames new (cond fits (earlier ++ line ∷ []) earlier)

pub subscribe_follows : {E : Type 0} (result : Result Bool E) (old new : BTreeMap (ℕ × List ℕ) Kind) (line : Line) (name : List ℕ) (kind : Kind)
    → line.command ≡ Subscribe name kind
    → IfOk result (λ fits. fits ≡ is_none (get name_cmp old (line.thread, name)))
    → IfOk result (λ fits. OnTrue fits (Updates name_cmp old new (line.thread, name) (Some kind)))
    → IfOk result (λ fits. OnFalse fits (IsUnchanged old new))
    → IfOk result (Follows old new line)
subscribe_follows (Ok fits) old new line name kind is test updates same = λ earlier holds.
    change_follows earlier line name (Some kind) (Subscribe name kind) is (λ here text before. refl) fits old new
    (test ∙ ap is_none (holds line.thread name)) updates same holds
subscribe_follows (Err fault) old new line name kind is test updates same = tt

pub leave_follows : (fits : Bool) (found : Option Kind) (old new : BTreeMap (ℕ × List ℕ) Kind) (line : Line) (name : List ℕ)
    → line.command ≡ Leave name → fits ≡ is_some found
    → found ≡ get name_cmp old (line.thread, name)
    → Updates name_cmp old new (line.thread, name) None
    → IfNone found (IsUnchanged old new)
    → Follows old new line fits
leave_follows fits found old new line name is test value updates same = λ earlier holds.
    change_follows earlier line name None (Leave name) is (λ here text before. refl) fits old new
    (test ∙ ap is_some (value ∙ holds line.thread name)) (always fits) (unchanged fits found test same) holds
  where
    always : (b : Bool) → OnTrue b (Updates name_cmp old new (line.thread, name) None)
    always true = updates
    always false = tt

    unchanged : (b : Bool) (o : Option Kind) → b ≡ is_some o → IfNone o (IsUnchanged old new) → OnFalse b (IsUnchanged old new)
    unchanged true o t h = tt
    unchanged false None t h = h
    unchanged false (Some kind) t h = absurd (cc)

pub read_follows : (fits : Bool) (names : BTreeMap (ℕ × List ℕ) Kind) (line : Line) (name : List ℕ) (max : ℕ)
    → line.command ≡ Read name max
    → fits ≡ is_some (get name_cmp names (line.thread, name))
    → Follows names names line fits
read_follows fits names line name max is test = λ earlier holds.
    (test ∙ (ap is_some (holds line.thread name) ∙ ap (λ (c : Command). is_named_well (subscribed_as earlier line.thread) c) (sym is)), after earlier fits holds)
  where
    after : (earlier : List Line) (b : Bool) → HoldsNames names earlier → HoldsNames names (cond b (earlier ++ line ∷ []) earlier)
    after earlier true holds = λ thread text.
        holds thread text
        ∙ (sym (ap (λ (c : Command). subscribed_after (nat_eq line.thread thread) text (subscribed_as earlier thread text) c) is)
        ∙ sym (subscribed_as-push earlier line thread text))
    after earlier false holds = holds
