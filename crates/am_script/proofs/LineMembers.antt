-- Facts about the words of specs/inside/LineMembers.antt: a member more, and the command of the members.
use Rattle.std.proofs.Common.{◌≡◌, ◌∙◌, ℕ, ◌+◌, ◌<◌, true, false, cond, true≢false, List, [], ◌∷◌, length, get_or, Option, None, Some, bytes_eq, codes, refl, sym, ap, subst, arith, rules}
use Rattle.std.specs.Prelude.{IfSome, Ok, is_some, option_and_then, option_map}
use Rattle.std.proofs.lemmas.Fmt.{decimal_digit}
use Rattle.serde_json.specs.Data.{Data, Members, no_members, number, object, put, string, unsigned}
use Rattle.serde_json.specs.Find.{as_array, as_number, as_str, as_u64, get_member}
use Rattle.serde_json.specs.Read.{number_of}
use Rattle.serde_json.proofs.Numbers.{number_of-decimal}
use Rattle.serde_json.proofs.Views.{get_member-put, get_member-put_other}
use Rattle.am_posts.specs.Bodies.{IsBodyOf}
use Rattle.am_alert.specs.TimeTexts.{time_of}
use Rattle.am_posts.specs.WholeAlerts.{whole_alerts_in}
use Rattle.am_alert.specs.declared.alert.Alert.{Alert}
use Rattle.am_posts.specs.declared.body.Body.{Body}
use Rattle.am_posts.proofs.Tokens.{apart, number_read, text_read}
use Rattle.am_posts.specs.Tokens.{AreNextAlerts, IsNextBody, IsValueOf}
use Rattle.json.specs.Token.{Token}
use Rattle.json.specs.Token as token
use Rattle.am_script.specs.Commands.{HasItsBody, IsLineFrom, ReadsCommand, command_for, command_of, kind_of, line_of, max_of, moment_of, name_of, page_of, posted_body, thread_of, unless_empty, verb_at, verb_of, within}
use Rattle.am_script.specs.Kinds.{kind_named}
use Rattle.am_script.specs.Members.{◌>>=◌}
use Rattle.am_script.specs.Puts.{alerts_at}
use Rattle.am_script.specs.declared.command.Command.{Command}
use Rattle.am_script.specs.declared.command.Command.TheVariants as command
use Rattle.am_script.specs.declared.command.Line.{Line}
use Rattle.am_script.specs.declared.command.Verb.{Verb}
use Rattle.am_script.specs.declared.command.Verb.TheVariants as verb
use Rattle.am_script.specs.declared.kind.Kind.TheVariants.{Plain}
use Rattle.am_script.specs.declared.line_members.LineMembers.{LineMembers}
use Rattle.am_script.specs.inside.LineMembers.{AddsMember, AreMembersOfLine, IsNextValue, is_read}

-- ---- a member more

pub none_read : AreMembersOfLine (record { verb = None; thread = None; at = None; name = None; body = None; alerts = None }) no_members
none_read = record {
  verb = tt;
  thread = tt;
  at = tt;
  name = tt;
  body = tt;
  alerts = tt;
  other = λ name not_read. refl;
}

-- what a member is read as, where one is found
abbrev verb_found : Option Data → Option Verb
verb_found o = option_and_then verb_of (option_and_then as_str o)

abbrev thread_found : Option Data → Option ℕ
thread_found o = option_and_then (within 0 7) (option_and_then as_u64 (option_and_then as_number o))

abbrev moment_found : Option Data → Option ℕ
moment_found o = option_and_then (λ time. time) (option_and_then time_of (option_and_then as_str o))

abbrev name_found : Option Data → Option (List ℕ)
name_found o = option_and_then unless_empty (option_and_then as_str o)

abbrev alerts_found : Option Data → Option (List Alert)
alerts_found o = option_and_then whole_alerts_in (option_and_then as_array o)

-- what a line has of each member, if this is the member that is found
abbrev HasVerb : LineMembers → Option Data → Type 0
HasVerb line o = IfSome line.verb (λ verb. verb_found o ≡ Some verb)

abbrev HasThread : LineMembers → Option Data → Type 0
HasThread line o = IfSome line.thread (λ thread. thread_found o ≡ Some thread)

abbrev HasMoment : LineMembers → Option Data → Type 0
HasMoment line o = IfSome line.at (λ at. moment_found o ≡ Some at)

abbrev HasName : LineMembers → Option Data → Type 0
HasName line o = IfSome line.name (λ name. name_found o ≡ Some name)

abbrev HasBody : LineMembers → Option Data → Type 0
HasBody line o = IfSome line.body (λ body. (d : Data) × (o ≡ Some d) × IsBodyOf d body)

abbrev HasAlerts : LineMembers → Option Data → Type 0
HasAlerts line o = IfSome line.alerts (λ alerts. alerts_found o ≡ Some alerts)

-- what holds of the member of a name holds of it once there is one of another name
still : (P : Option Data → Type 0) (name k : List ℕ) (d : Data) (ms : Members) → bytes_eq name k ≡ false → P (get_member name ms) → P (get_member name (put k d ms))
still P name k d ms other was = subst P (sym (get_member-put_other name k d ms (apart name k other))) was

-- what holds of a member holds of it once it is there
new_one : (P : Option Data → Type 0) (k : List ℕ) (d : Data) (ms : Members) → P (Some d) → P (get_member k (put k d ms))
new_one P k d ms holds = subst P (sym (get_member-put k d ms)) holds

-- a member that isn't read is still none
no_other : (k : List ℕ) (d : Data) (ms : Members) → is_read k ≡ true → ((name : List ℕ) → is_read name ≡ false → get_member name ms ≡ None)
    → (name : List ℕ) → is_read name ≡ false → get_member name (put k d ms) ≡ None
no_other k d ms read was name not_read =
    get_member-put_other name k d ms (λ same. true≢false (sym read ∙ ap is_read (sym same) ∙ not_read)) ∙ was name not_read

module _ (line : LineMembers) (ms : Members) (those : AreMembersOfLine line ms) (d : Data) where
  with_verb : (x : Verb) → verb_found (Some d) ≡ Some x → AreMembersOfLine (record line { verb = Some x }) (put (codes "do") d ms)
  with_verb x is =
      let k = codes "do" in
      let now : LineMembers = record line { verb = Some x } in
      record {
        verb = new_one (HasVerb now) k d ms is;
        thread = still (HasThread line) (codes "thread") k d ms refl those.thread;
        at = still (HasMoment line) (codes "at") k d ms refl those.at;
        name = still (HasName line) (codes "sub") k d ms refl those.name;
        body = still (HasBody line) (codes "body") k d ms refl those.body;
        alerts = still (HasAlerts line) (codes "alerts") k d ms refl those.alerts;
        other = no_other k d ms refl those.other;
      }

  with_thread : (x : ℕ) → thread_found (Some d) ≡ Some x → AreMembersOfLine (record line { thread = Some x }) (put (codes "thread") d ms)
  with_thread x is =
      let k = codes "thread" in
      let now : LineMembers = record line { thread = Some x } in
      record {
        verb = still (HasVerb line) (codes "do") k d ms refl those.verb;
        thread = new_one (HasThread now) k d ms is;
        at = still (HasMoment line) (codes "at") k d ms refl those.at;
        name = still (HasName line) (codes "sub") k d ms refl those.name;
        body = still (HasBody line) (codes "body") k d ms refl those.body;
        alerts = still (HasAlerts line) (codes "alerts") k d ms refl those.alerts;
        other = no_other k d ms refl those.other;
      }

  with_at : (x : ℕ) → moment_found (Some d) ≡ Some x → AreMembersOfLine (record line { at = Some x }) (put (codes "at") d ms)
  with_at x is =
      let k = codes "at" in
      let now : LineMembers = record line { at = Some x } in
      record {
        verb = still (HasVerb line) (codes "do") k d ms refl those.verb;
        thread = still (HasThread line) (codes "thread") k d ms refl those.thread;
        at = new_one (HasMoment now) k d ms is;
        name = still (HasName line) (codes "sub") k d ms refl those.name;
        body = still (HasBody line) (codes "body") k d ms refl those.body;
        alerts = still (HasAlerts line) (codes "alerts") k d ms refl those.alerts;
        other = no_other k d ms refl those.other;
      }

  with_name : (x : List ℕ) → name_found (Some d) ≡ Some x → AreMembersOfLine (record line { name = Some x }) (put (codes "sub") d ms)
  with_name x is =
      let k = codes "sub" in
      let now : LineMembers = record line { name = Some x } in
      record {
        verb = still (HasVerb line) (codes "do") k d ms refl those.verb;
        thread = still (HasThread line) (codes "thread") k d ms refl those.thread;
        at = still (HasMoment line) (codes "at") k d ms refl those.at;
        name = new_one (HasName now) k d ms is;
        body = still (HasBody line) (codes "body") k d ms refl those.body;
        alerts = still (HasAlerts line) (codes "alerts") k d ms refl those.alerts;
        other = no_other k d ms refl those.other;
      }

  with_body : (x : Body) → IsBodyOf d x → AreMembersOfLine (record line { body = Some x }) (put (codes "body") d ms)
  with_body x is =
      let k = codes "body" in
      let now : LineMembers = record line { body = Some x } in
      record {
        verb = still (HasVerb line) (codes "do") k d ms refl those.verb;
        thread = still (HasThread line) (codes "thread") k d ms refl those.thread;
        at = still (HasMoment line) (codes "at") k d ms refl those.at;
        name = still (HasName line) (codes "sub") k d ms refl those.name;
        body = new_one (HasBody now) k d ms (d, refl, is);
        alerts = still (HasAlerts line) (codes "alerts") k d ms refl those.alerts;
        other = no_other k d ms refl those.other;
      }

  with_alerts : (x : List Alert) → alerts_found (Some d) ≡ Some x → AreMembersOfLine (record line { alerts = Some x }) (put (codes "alerts") d ms)
  with_alerts x is =
      let k = codes "alerts" in
      let now : LineMembers = record line { alerts = Some x } in
      record {
        verb = still (HasVerb line) (codes "do") k d ms refl those.verb;
        thread = still (HasThread line) (codes "thread") k d ms refl those.thread;
        at = still (HasMoment line) (codes "at") k d ms refl those.at;
        name = still (HasName line) (codes "sub") k d ms refl those.name;
        body = still (HasBody line) (codes "body") k d ms refl those.body;
        alerts = new_one (HasAlerts now) k d ms is;
        other = no_other k d ms refl those.other;
      }

-- what comes next is a text, and what is read of it
pub text_next : {X : Type 0} (f : List ℕ → Option X) (old new : List Token) (text : List ℕ) (x : Option X) → old ≡ token.string text ∷ new → x ≡ f text
    → IfSome x (IsNextValue (λ d. option_and_then f (as_str d)) old new)
text_next f old new text None is same = tt
text_next f old new text (Some x) is same = (string text, λ depth. text_read depth old new text is, sym same)

pub moment_next : (old new : List Token) (text : List ℕ) (at : Option ℕ) → old ≡ token.string text ∷ new → time_of text ≡ Some at
    → IfSome at (IsNextValue (λ d. moment_found (Some d)) old new)
moment_next old new text None is same = tt
moment_next old new text (Some at) is same = (string text, λ depth. text_read depth old new text is, ap (option_and_then (λ time. time)) same)

not_empty : (text : List ℕ) → 0 < length text → unless_empty text ≡ Some text
not_empty [] some = absurd (omega (arith, some))
not_empty (byte ∷ bytes) some = refl

pub name_next : (old new : List Token) (text name : List ℕ) → old ≡ token.string text ∷ new → 0 < length text → name ≡ text → IsNextValue (λ d. name_found (Some d)) old new name
name_next old new text name is some same = (string text, λ depth. text_read depth old new text is, not_empty text some ∙ ap Some (sym same))

a_thread : (n : ℕ) → n < 8 → within 0 7 n ≡ Some n
a_thread n small = search rules

pub thread_next : (old new : List Token) (text : List ℕ) (digit thread : ℕ) → old ≡ token.number text ∷ new → number_of text ≡ Some (unsigned digit) → digit < 8 → thread ≡ digit
    → IsNextValue (λ d. thread_found (Some d)) old new thread
thread_next old new text digit thread is reads small same =
    (number (unsigned digit), λ depth. number_read depth old new text (unsigned digit) is reads, a_thread digit small ∙ ap Some (sym same))

-- what comes next is a member that is read
module _ (depth : ℕ) (name : List ℕ) (old new : List Token) (line : LineMembers) where
  adds : (is : LineMembers) (k : List ℕ) (d : Data) → name ≡ k → IsValueOf depth old new d
      → ((ms : Members) → AreMembersOfLine line ms → AreMembersOfLine is (put k d ms)) → AddsMember depth name old new line is
  adds is k d named value puts = (d, value, λ ms those. subst (λ (n : List ℕ). AreMembersOfLine is (put n d ms)) (sym named) (puts ms those))

  pub adds_verb : (verb : Option Verb) → name ≡ codes "do" → IfSome verb (IsNextValue (λ d. verb_found (Some d)) old new) → is_some verb ≡ true
      → AddsMember depth name old new line (record line { verb = verb })
  adds_verb None named read some = absurd (true≢false (sym some))
  adds_verb (Some x) named read some = adds (record line { verb = Some x }) (codes "do") read.0 named (read.1 depth) (λ ms those. with_verb line ms those read.0 x read.2)

  pub adds_thread : (thread : Option ℕ) → name ≡ codes "thread" → IfSome thread (IsNextValue (λ d. thread_found (Some d)) old new) → is_some thread ≡ true
      → AddsMember depth name old new line (record line { thread = thread })
  adds_thread None named read some = absurd (true≢false (sym some))
  adds_thread (Some x) named read some = adds (record line { thread = Some x }) (codes "thread") read.0 named (read.1 depth) (λ ms those. with_thread line ms those read.0 x read.2)

  pub adds_at : (at : Option ℕ) → name ≡ codes "at" → IfSome at (IsNextValue (λ d. moment_found (Some d)) old new) → is_some at ≡ true
      → AddsMember depth name old new line (record line { at = at })
  adds_at None named read some = absurd (true≢false (sym some))
  adds_at (Some x) named read some = adds (record line { at = Some x }) (codes "at") read.0 named (read.1 depth) (λ ms those. with_at line ms those read.0 x read.2)

  pub adds_name : (sub : Option (List ℕ)) → name ≡ codes "sub" → IfSome sub (IsNextValue (λ d. name_found (Some d)) old new) → is_some sub ≡ true
      → AddsMember depth name old new line (record line { name = sub })
  adds_name None named read some = absurd (true≢false (sym some))
  adds_name (Some x) named read some = adds (record line { name = Some x }) (codes "sub") read.0 named (read.1 depth) (λ ms those. with_name line ms those read.0 x read.2)

  pub adds_body : (body : Option Body) → name ≡ codes "body" → IfSome body (IsNextBody depth old new) → is_some body ≡ true
      → AddsMember depth name old new line (record line { body = body })
  adds_body None named read some = absurd (true≢false (sym some))
  adds_body (Some x) named read some = adds (record line { body = Some x }) (codes "body") read.0 named read.1 (λ ms those. with_body line ms those read.0 x read.2)

  pub adds_alerts : (alerts : Option (List Alert)) → name ≡ codes "alerts" → IfSome alerts (AreNextAlerts depth old new) → is_some alerts ≡ true
      → AddsMember depth name old new line (record line { alerts = alerts })
  adds_alerts None named read some = absurd (true≢false (sym some))
  adds_alerts (Some x) named read some = adds (record line { alerts = Some x }) (codes "alerts") read.0 named read.1 (λ ms those. with_alerts line ms those read.0 x read.2)

pub one_byte : (text : List ℕ) → length text ≡ 1 → text ≡ get_or text 0 0 ∷ []
one_byte [] is = absurd (omega (arith, is))
one_byte (byte ∷ []) is = refl
one_byte (byte ∷ next ∷ rest) is = absurd (omega (arith, is))

pub digit_read : (text : List ℕ) (digit : ℕ) → digit < 10 → text ≡ (48 + digit) ∷ [] → number_of text ≡ Some (unsigned digit)
digit_read text digit small is = ap number_of (is ∙ sym (decimal_digit digit small)) ∙ number_of-decimal digit (omega arith)

-- ---- the command

abbrev line_with : ℕ → ℕ → Command → Line
line_with n thread c = record { number = n; thread = thread; command = c }

-- a command that is read of its verb, with the thread that is read beside
in_thread : (n : ℕ) (thread : Option ℕ) (v : Option Verb) (command : Verb → Option Command) (t : ℕ) (c : Command) → thread ≡ Some t → (v >>= command) ≡ Some c
    → (thread >>= (λ t. v >>= (λ v. command v >>= (λ c. Some (line_with n t c))))) ≡ Some (line_with n t c)
in_thread n thread None command t c is read = cc
in_thread n thread (Some v) command t c is read = rw (is, read) refl

module _ (line : LineMembers) (ms : Members) (those : AreMembersOfLine line ms) where
  -- the command that is read of the line
  abbrev Reads : Command → Type 0
  Reads c = ReadsCommand (object ms) (Ok c) (λ b. command_of b (object ms))

  verb_is : (v : Verb) → line.verb ≡ Some v → verb_at (object ms) ≡ Some v
  verb_is v is = subst (λ (o : Option Verb). IfSome o (λ x. verb_at (object ms) ≡ Some x)) is those.verb

  at_is : (at : ℕ) → line.at ≡ Some at → moment_of (object ms) ≡ Some at
  at_is at is = subst (λ (o : Option ℕ). IfSome o (λ x. moment_of (object ms) ≡ Some x)) is those.at

  name_is : (name : List ℕ) → line.name ≡ Some name → name_of (object ms) ≡ Some name
  name_is name is = subst (λ (o : Option (List ℕ)). IfSome o (λ x. name_of (object ms) ≡ Some x)) is those.name

  kind_is : kind_of (object ms) ≡ Some Plain
  kind_is = ap (λ o. cond (is_some o) (option_and_then kind_named (option_and_then as_str o)) (Some Plain)) (those.other (codes "kind") refl)

  max_is : max_of (object ms) ≡ Some 1
  max_is = ap (λ o. cond (is_some o) (option_and_then (within 1 65536) (option_and_then as_u64 (option_and_then as_number o))) (Some 1)) (those.other (codes "max") refl)

  -- it is read of the verb
  reads : (v : Verb) (c : Command) → line.verb ≡ Some v → HasItsBody (object ms) c → command_for (posted_body c) (object ms) v ≡ Some c → Reads c
  unfolding command_of
  reads v c is has read = (has, rw (verb_is v is, read) refl)

  pub reads_post : (at : ℕ) (b : Body) → line.verb ≡ Some verb.Post → line.at ≡ Some at → line.body ≡ Some b → Reads (command.Post at b)
  unfolding command_for
  reads_post at b is moment body =
      let found = subst (λ (o : Option Body). IfSome o (λ x. (d : Data) × (get_member (codes "body") ms ≡ Some d) × IsBodyOf d x)) body those.body in
      reads verb.Post (command.Post at b) is (subst (λ (o : Option Data). IfSome o (λ d. IsBodyOf d b)) (sym found.1) found.2) (rw (at_is at moment, found.1) refl)

  pub reads_put : (at : ℕ) (given : List Alert) → line.verb ≡ Some verb.Put → line.at ≡ Some at → line.alerts ≡ Some given → Reads (command.Put at given)
  unfolding command_for
  reads_put at given is moment alerts =
      let found = subst (λ (o : Option (List Alert)). IfSome o (λ x. alerts_at (object ms) ≡ Some x)) alerts those.alerts in
      reads verb.Put (command.Put at given) is tt (rw (at_is at moment, found) refl)

  pub reads_subscribe : (name : List ℕ) → line.verb ≡ Some verb.Subscribe → line.name ≡ Some name → Reads (command.Subscribe name Plain)
  unfolding command_for
  reads_subscribe name is named = reads verb.Subscribe (command.Subscribe name Plain) is tt (rw (name_is name named, kind_is) refl)

  pub reads_read : (name : List ℕ) → line.verb ≡ Some verb.Read → line.name ≡ Some name → Reads (command.Read name 1)
  unfolding command_for
  reads_read name is named = reads verb.Read (command.Read name 1) is tt (rw (name_is name named, max_is) refl)

  pub reads_leave : (name : List ℕ) → line.verb ≡ Some verb.Leave → line.name ≡ Some name → Reads (command.Leave name)
  unfolding command_for
  reads_leave name is named = reads verb.Leave (command.Leave name) is tt (ap (option_map command.Leave) (name_is name named))

  pub reads_collect : (at : ℕ) → line.verb ≡ Some verb.Collect → line.at ≡ Some at → Reads (command.Collect at)
  unfolding command_for
  reads_collect at is moment = reads verb.Collect (command.Collect at) is tt (ap (option_map command.Collect) (at_is at moment))

  pub reads_take : (at : ℕ) → line.verb ≡ Some verb.Take → line.at ≡ Some at → Reads (command.Take at)
  unfolding command_for
  reads_take at is moment = reads verb.Take (command.Take at) is tt (ap (option_map command.Take) (at_is at moment))

  pub reads_sweep : (name : List ℕ) (at : ℕ) → line.verb ≡ Some verb.Sweep → line.name ≡ Some name → line.at ≡ Some at → Reads (command.Sweep name at)
  unfolding command_for
  reads_sweep name at is named moment = reads verb.Sweep (command.Sweep name at) is tt (rw (name_is name named, at_is at moment) refl)

  pub reads_forget : (name : List ℕ) (at : ℕ) → line.verb ≡ Some verb.Forget → line.name ≡ Some name → line.at ≡ Some at → Reads (command.Forget name at)
  unfolding command_for
  reads_forget name at is named moment = reads verb.Forget (command.Forget name at) is tt (rw (name_is name named, at_is at moment) refl)

  pub reads_close : line.verb ≡ Some verb.Close → Reads command.Close
  unfolding command_for
  reads_close is = reads verb.Close command.Close is tt refl

  pub reads_trim : line.verb ≡ Some verb.Trim → Reads command.Trim
  unfolding command_for
  reads_trim is = reads verb.Trim command.Trim is tt refl

  pub reads_compact : line.verb ≡ Some verb.Compact → Reads command.Compact
  unfolding command_for
  reads_compact is = reads verb.Compact command.Compact is tt refl

  pub reads_routes : line.verb ≡ Some verb.Routes → Reads command.Routes
  unfolding command_for
  reads_routes is = reads verb.Routes command.Routes is tt refl

  pub reads_stored : line.verb ≡ Some verb.Stored → Reads command.Stored
  unfolding command_for
  reads_stored is = reads verb.Stored command.Stored is tt (ap (λ o. cond (is_some o) (page_of (object ms)) (Some command.Stored)) (those.other (codes "max") refl))

  pub reads_line : (n thread : ℕ) (c : Command) → line.thread ≡ Some thread → Reads c → IsLineFrom n (object ms) (Ok (line_with n thread c))
  unfolding line_of command_of
  reads_line n thread c is read =
      let threaded = subst (λ (o : Option ℕ). IfSome o (λ x. thread_of (object ms) ≡ Some x)) is those.thread in
      (read.0, in_thread n (thread_of (object ms)) (verb_at (object ms)) (λ v. command_for (posted_body c) (object ms) v) thread c threaded read.1)
