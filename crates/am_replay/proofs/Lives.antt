-- What a live run comes to.
use Rattle.std.proofs.Common.{◌≡◌, ◌≢◌, ◌<◌, ◌∙◌, ℕ, Bool, cond, ne_eqb, List, [], ◌∷◌, ◌++◌, length, Option, Some, None, Result, Ok, Err, IfOk, OnErr, OnOk, true, String, string_bytes, refl, sym, ap, subst, arith, length-append, append-nil}
use Rattle.std.specs.List.{All, onto_first}
use Rattle.std.proofs.lemmas.List.Elements.{All-head, All-tail}
use Rattle.std.specs.declared.alloc.Global.{Global}
use Rattle.std.specs.declared.time.Duration.{Duration}
use Rattle.am_alert.specs.declared.alert.Alert.{Alert}
use Rattle.am_cast.specs.Posters.{PassView}
use Rattle.am_history.specs.Fronts.{FrontView}
use Rattle.am_store.specs.declared.call.Call.{Call}
use Rattle.am_provider.specs.Callers.{IsNewCaller}
use Rattle.am_provider.specs.Ending.{IsSettledFrom}
use Rattle.am_provider.specs.Histories.{EntryView}
use Rattle.am_provider.specs.declared.settled.Settled.{Settled}
use Rattle.am_provider.specs.declared.answers.Policy.{Policy}
use Rattle.std.specs.Io.KnownBytes.{Appends, Keeps}
use Rattle.am_config.specs.declared.config.Config.{Config}
use Rattle.json.specs.Json.{object}
use Rattle.json.specs.Print.{print}
use Rattle.json.specs.Tree.{json_tokens}
use Rattle.am_script.specs.Outputs.{AppendsBeginning}
use Rattle.am_script.specs.Script.{config_line, first_of, lines_of}
use Rattle.am_script.specs.declared.limits.TheConstants.{LONGEST_LINE}
use Rattle.am_provider.specs.declared.answers.Counts.{Counts}
use Rattle.am_runner.specs.Sessions.{LeavesAll, SessionView, Setting, new_session, setting_of}
use Rattle.am_runner.specs.live.Serving.{IsServed, IsServedInPart}
use Rattle.am_runner.specs.live.Standing.{RunView, new_run}
use Rattle.am_script.specs.declared.form.Form.{Form}
use Rattle.am_script.specs.declared.form.Form.TheVariants as forms
use Rattle.am_runner.specs.live.Reading.{IsNext, IsNextAs}
use Rattle.am_runner.specs.declared.live.reading.InputLine.{InputLine}
use Rattle.am_runner.specs.declared.live.reading.InputLine.TheVariants as input_line
use Rattle.am_command_line.specs.FirstLines.{IsFirstLine}
use Rattle.am_command_line.specs.declared.first_line.FirstLine.TheVariants as first_line
use Rattle.am_replay.specs.Live.{IsEnd, IsFailure, IsFirstAs, IsLive, IsLived, IsRefusedAs, IsServedAs, IsServedWhole, IsWritten, LivesUnder, cut_short, line_or_empty, lived, last_line_cut_short, no_memory, not_written, refused, refusal_cut_short}
use Rattle.am_replay.specs.Runs.{AreCountsOf}
use Rattle.am_replay.specs.Printing.{counts_line, counts_members, counts_text}
use Rattle.am_command_line.specs.declared.arguments.Arguments.{Arguments}
use Rattle.am_command_line.specs.declared.first_line.FirstLine.{FirstLine}
use Rattle.am_command_line.specs.declared.status.Status.{Status}
use Rattle.am_command_line.specs.declared.status.Status.TheVariants.{Done, BadArguments, Refused, CallOutOfMemory, OutOfMemory, NoThread, ReadFailed, WriteFailed}

-- the first line, as it was read
pub read_as_first : (old new : Option (List ℕ)) (line : Option InputLine) → IsNextAs old line new → (bytes : Option (List ℕ)) × IsFirstAs bytes line × IsNext old bytes new
read_as_first old new None next = (None, tt, next)
read_as_first old new (Some line) next = (Some next.0, (next.1, next.2), next.3)

-- a line without a line feed is one line
plain_line : (byte : ℕ) (bytes : List ℕ) → All (λ x. x ≢ 10) (byte ∷ bytes) → lines_of (byte ∷ bytes) ≡ (byte ∷ bytes) ∷ []
plain_line byte [] plain = ap (λ b. cond b ([] ∷ []) ((byte ∷ []) ∷ [])) (ne_eqb byte 10 (All-head (λ x. x ≢ 10) byte [] plain))
plain_line byte (next ∷ bytes) plain =
    ap (λ b. cond b ([] ∷ lines_of (next ∷ bytes)) (onto_first byte (lines_of (next ∷ bytes)))) (ne_eqb byte 10 (All-head (λ x. x ≢ 10) byte (next ∷ bytes) plain))
    ∙ ap (onto_first byte) (plain_line next bytes (All-tail (λ x. x ≢ 10) byte (next ∷ bytes) plain))

plain_config : (bytes : List ℕ) → All (λ x. x ≢ 10) bytes → config_line bytes ≡ bytes
plain_config [] plain = refl
plain_config (byte ∷ bytes) plain = ap first_of (plain_line byte bytes plain)

pub first_too_long : (bytes : Option (List ℕ)) → IsFirstAs bytes (Some input_line.TooLong) → IsFirstLine (line_or_empty bytes) first_line.TooLong
first_too_long None is = absurd is
first_too_long (Some bytes) is = subst (λ (line : List ℕ). LONGEST_LINE < length line) (sym (plain_config bytes is.0)) is.1

-- what is kept grows by nothing
appends_kept_none : (old new : Option (List ℕ)) → Keeps old new → Appends old new []
appends_kept_none None new kept = tt
appends_kept_none (Some xs) None kept = absurd kept
appends_kept_none (Some xs) (Some ys) kept = kept ∙ sym (append-nil xs)

pub refusal_told : {E : Type 0} (arguments : Arguments) (input old new line rest : Option (List ℕ)) (first : FirstLine) (wanted : List ℕ) (text : Result (String Global) E) (status : Status)
    → IsNext input line rest → IsFirstLine (line_or_empty line) first → IsRefusedAs arguments.form first wanted → IfOk text (λ t. string_bytes t ≡ wanted) → IsWritten text old status new → IsLive arguments input old status new
refusal_told arguments input old new line rest first wanted (Ok text) Refused next is as_text same told = refused line rest first wanted next is as_text (subst (Appends old new) same told)
refusal_told arguments input old new line rest first wanted (Ok text) WriteFailed next is as_text same told = refusal_cut_short line rest first wanted next is as_text (subst (AppendsBeginning old new) same told)
refusal_told arguments input old new line rest first wanted (Ok text) Done next is as_text same told = absurd told
refusal_told arguments input old new line rest first wanted (Ok text) BadArguments next is as_text same told = absurd told
refusal_told arguments input old new line rest first wanted (Ok text) CallOutOfMemory next is as_text same told = absurd told
refusal_told arguments input old new line rest first wanted (Ok text) OutOfMemory next is as_text same told = absurd told
refusal_told arguments input old new line rest first wanted (Ok text) NoThread next is as_text same told = absurd told
refusal_told arguments input old new line rest first wanted (Ok text) ReadFailed next is as_text same told = absurd told
refusal_told arguments input old new line rest first wanted (Err error) OutOfMemory next is as_text same told = IsLive.not_begun no_memory told
refusal_told arguments input old new line rest first wanted (Err error) Done next is as_text same told = absurd told
refusal_told arguments input old new line rest first wanted (Err error) BadArguments next is as_text same told = absurd told
refusal_told arguments input old new line rest first wanted (Err error) Refused next is as_text same told = absurd told
refusal_told arguments input old new line rest first wanted (Err error) CallOutOfMemory next is as_text same told = absurd told
refusal_told arguments input old new line rest first wanted (Err error) NoThread next is as_text same told = absurd told
refusal_told arguments input old new line rest first wanted (Err error) ReadFailed next is as_text same told = absurd told
refusal_told arguments input old new line rest first wanted (Err error) WriteFailed next is as_text same told = absurd told

-- a text that ends in a line feed isn't empty
some_line : (text : List ℕ) → text ++ 10 ∷ [] ≢ []
some_line text none = let long = length-append text (10 ∷ []) in let same = ap length none in omega (arith, long, same)

some_counts : (form : Form) (counts : Counts) → counts_line form counts ≢ []
some_counts forms.Text counts none = some_line (counts_text counts) none
some_counts forms.Json counts none = some_line (print (json_tokens (object (counts_members counts)))) none

pub counts_told : (setting : Setting) (form : Form) (follows : Bool) (config : Config) (input rest old mid new : Option (List ℕ)) (counts : Counts) (status : Status) → IsLived config setting form follows input rest old mid counts → IsEnd form counts mid status new → LivesUnder setting form follows config input old status new
counts_told setting form follows config input rest old mid new counts Done is told = lived counts is told
counts_told setting form follows config input rest old mid new counts WriteFailed is told = last_line_cut_short counts is not_written told
counts_told setting form follows config input rest old mid new counts OutOfMemory is told = last_line_cut_short counts is no_memory (record { written = []; rest = counts_line form counts; whole = refl; some = some_counts form counts; appended = appends_kept_none mid new told })
counts_told setting form follows config input rest old mid new counts BadArguments is told = absurd told
counts_told setting form follows config input rest old mid new counts Refused is told = absurd told
counts_told setting form follows config input rest old mid new counts CallOutOfMemory is told = absurd told
counts_told setting form follows config input rest old mid new counts NoThread is told = absurd told
counts_told setting form follows config input rest old mid new counts ReadFailed is told = absurd told

-- the last of a list of one is the only one
pub none_before : {A : Type 0} (left : List A) (last : A) (all : List A) → all ≡ left ++ last ∷ [] → length all ≡ 1 → left ≡ []
none_before [] last all is one = refl
none_before (first ∷ left) last all is one = absurd (let long = length-append left (last ∷ []) in let same = ap length is in omega (arith, long, same, one))

pub last_holds : {A : Type 0} (P : A → Type 0) (left : List A) (last : A) (all : List A) → all ≡ left ++ last ∷ [] → left ≡ [] → All P all → P last
last_holds P left last all is none holds = subst (All P) (is ∙ ap (λ l. l ++ last ∷ []) none) holds 0 last (omega arith)

-- a new caller's session
fresh : (session : SessionView) (pass : PassView Alert Call) (front : FrontView EntryView) → session ≡ record { pass = pass; front = front; opened = [] } → IsNewCaller pass front → session ≡ new_session front.seat
fresh session pass front is new = is ∙ (ap (λ (p : PassView Alert Call). record { pass = p; front = front; opened = [] }) new.0 ∙ ap (λ (f : FrontView EntryView). record { pass = record { noted = []; own = [] }; front = f; opened = [] }) new.1)

-- what a new caller served
pub served_as : {T E : Type 0} (config : Config) (setting given : Setting) (form : Form) (follows : Bool) (input rest out written : Option (List ℕ)) (pass back : PassView Alert Call) (front front_back : FrontView EntryView) (passes : List (PassView Alert Call)) (fronts : List (FrontView EntryView)) (served : Result T E)
    → given ≡ setting → IsNewCaller pass front → passes ≡ back ∷ [] → fronts ≡ front_back ∷ []
    → OnOk served ((end : RunView) × IsServed config given form 2 (new_run (record { pass = pass; front = front; opened = [] }) follows) input rest out written end × LeavesAll end.session (record { pass = back; front = front_back; opened = [] }))
    → OnErr served (IsServedInPart config given form 2 (new_run (record { pass = pass; front = front; opened = [] }) follows) input out written)
    → IsServedAs config setting form follows input rest out written passes fronts served
served_as config setting given form follows input rest out written pass back front front_back passes fronts (Ok x) same new passes_are fronts_are done failed =
    let begin : SessionView = record { pass = pass; front = front; opened = [] } in
    record {
      seat = front.seat;
      end = done.0;
      left = record { pass = back; front = front_back; opened = [] };
      served = subst (λ (first : SessionView). IsServed config setting form 2 (new_run first follows) input rest out written done.0) (fresh begin pass front refl new)
          (subst (λ (s : Setting). IsServed config s form 2 (new_run begin follows) input rest out written done.0) same done.1);
      leaves = done.2;
      passes_are = passes_are;
      fronts_are = fronts_are;
    }
served_as config setting given form follows input rest out written pass back front front_back passes fronts (Err e) same new passes_are fronts_are done failed =
    let begin : SessionView = record { pass = pass; front = front; opened = [] } in (
      front.seat,
      subst (λ (first : SessionView). IsServedInPart config setting form 2 (new_run first follows) input out written) (fresh begin pass front refl new)
          (subst (λ (s : Setting). IsServedInPart config s form 2 (new_run begin follows) input out written) same failed),
    )

-- the same setting
pub same_setting : (places other : ℕ) (policy another : Policy) (timeout given : Duration) → other ≡ places → another ≡ policy → given ≡ timeout → setting_of other another given ≡ setting_of places policy timeout
same_setting places other policy another timeout given p q r =
    ap (λ (n : ℕ). setting_of n another given) p ∙ (ap (λ (x : Policy). setting_of places x given) q ∙ ap (setting_of places policy) r)

-- a provider lived whose driver served all lines
pub lived_so : {T E : Type 0} (config : Config) (setting given : Setting) (form : Form) (follows : Bool) (input rest out written : Option (List ℕ)) (passes : List (PassView Alert Call)) (fronts : List (FrontView EntryView)) (settled : Settled) (counts : Counts) (served : Result T E) (x : T)
    → given ≡ setting → served ≡ Ok x → IsServedAs config given form follows input rest out written passes fronts served
    → IsSettledFrom passes fronts settled → (length passes ≡ 1 → settled.complete ≡ true) → AreCountsOf settled counts
    → IsLived config setting form follows input rest out written counts
lived_so config setting given form follows input rest out written passes fronts settled counts (Ok y) x same is done ended complete counted =
    let whole = subst (λ (s : Setting). IsServedWhole config s form follows input rest out written passes fronts) same done in
    record { passes = passes; fronts = fronts; settled = settled; served = whole; ended = ended; complete = complete (ap length whole.passes_are); counts_are = counted }
lived_so config setting given form follows input rest out written passes fronts settled counts (Err e) x same is done ended complete counted = absurd (cc)

-- it ended by a failure
pub failed_so : {T E : Type 0} (config : Config) (setting given : Setting) (form : Form) (follows : Bool) (input rest out written : Option (List ℕ)) (passes : List (PassView Alert Call)) (fronts : List (FrontView EntryView)) (status : Status) (served : Result T E) (e : E)
    → given ≡ setting → served ≡ Err e → IsServedAs config given form follows input rest out written passes fronts served → IsFailure status
    → LivesUnder setting form follows config input out status written
failed_so config setting given form follows input rest out written passes fronts status (Ok y) e same is done fails = absurd (cc)
failed_so config setting given form follows input rest out written passes fronts status (Err d) e same is done fails =
    cut_short fails (subst (λ (s : Setting). IsServedInPart config s form 2 (new_run (new_session done.0) follows) input out written) same done.1)
