-- How a filter judges some reports, one after another.
use Rattle.std.proofs.Common.{◌≡◌, ℕ, ◌+◌, ◌≤◌, Bool, true, false, not, cond, List, [], ◌∷◌, ◌++◌, length, take, append-nil, Option, None, Some, refl, sym, ap, subst, ◌∙◌, arith, All}
use Rattle.std.specs.Arc.{arc_value}
use Rattle.std.specs.Fn.{Called}
use Rattle.std.specs.Prelude.{Result, Ok, Err, OnErr}
use Rattle.std.specs.Option.{is_none, is_some, option_copied, option_map}
use Rattle.std.specs.declared.sync.Arc.{Arc}
use Rattle.std.specs.declared.alloc.Global.{Global}
use Rattle.std.proofs.Math.Seq.{take-append_seam}
use Rattle.std.proofs.lemmas.List.Elements.{All-cons, All-head, All-nil, All-tail}
use denote.Ref.{Bor}
use Rattle.am_alert.specs.declared.alert.Alert.{Alert}
use Rattle.am_alert.specs.Merging.{absorbed}
use Rattle.am_store.specs.AlertList.{lookup, absorb_into}
use Rattle.am_store.specs.Judging.{Filter, Judges, AreJudged, WasAsked}

-- it holds of an error, whatever the answer is
pub on_err : {T E R : Type 0} (r : Result T E) → R → OnErr r R
on_err (Ok x) holds = tt
on_err (Err e) holds = holds

-- a look-up that finds nothing says that no alert has the label set
pub first_is : (o : Option (Bor (Arc Alert Global))) (answer : Bool) (found : Option Alert) → is_some o ≡ not answer → option_map arc_value (option_copied o) ≡ found → answer ≡ is_none found
first_is None true found e f = subst (λ (x : Option Alert). true ≡ is_none x) f refl
first_is None false found e f = cc
first_is (Some at) true found e f = cc
first_is (Some at) false found e f = subst (λ (x : Option Alert). false ≡ is_none x) f refl

module _ {F : Type 0} (filter : Filter F) where
  pub judges_of : (was is : F) (shown : Bor Alert) (alert : Alert) (told first answer accepts : Bool) → shown.now ≡ alert → told ≡ first → answer ≡ accepts
      → Called filter was (shown, (told, tt)) answer is → Judges filter was alert first accepts is
  judges_of was is shown alert told first answer accepts shows tells answers called = record {
    shown = shown;
    shows = shows;
    called = subst (λ (b : Bool). Called filter was (shown, (first, tt)) b is) answers (subst (λ (b : Bool). Called filter was (shown, (b, tt)) answer is) tells called);
  }

  -- one report more at the front
  pub judged_more : (now i next : ℕ) (last was is : F) (olds after : List Alert) (new : Alert) (items news others : List Alert) (rest : List ℕ) (accepts : Bool)
      → Judges filter was (absorbed now (lookup new.labels olds) new) (is_none (lookup new.labels olds)) accepts is
      → after ≡ cond accepts (absorb_into now new olds) olds → items ≡ new ∷ news → next ≡ i + 1
      → AreJudged filter now last is next after news others rest
      → AreJudged filter now last was i olds items (cond accepts (new ∷ others) others) (cond accepts rest (i ∷ rest))
  judged_more now i next last was is olds after new items news others rest accepts judges left is_first counts judged =
      grind arith

  -- all that were judged, with nothing after them
  pub judged_all : (now i : ℕ) (last was : F) (olds done news accepted : List Alert) (refused : List ℕ) → done ≡ news
      → AreJudged filter now last was i olds (done ++ []) (accepted ++ []) (refused ++ []) → AreJudged filter now last was i olds news accepted refused
  judged_all now i last was olds done news accepted refused all judged = grind (arith, append-nil)

  -- a filter was asked of those that were judged
  pub asked_some : (now : ℕ) (last was : F) (olds done more news accepted : List Alert) (refused : List ℕ) → done ++ more ≡ news
      → AreJudged filter now last was 0 olds (done ++ []) (accepted ++ []) (refused ++ []) → WasAsked filter now last was olds news
  asked_some now last was olds done more news accepted refused parts judged =
      let first : done ≡ take (length done) news = sym (take-append_seam done more) ∙ ap (take (length done)) parts in
      (length done, accepted, refused, judged_all now 0 last was olds done (take (length done) news) accepted refused first judged)

  -- what was accepted is some of what was reported
  pub accepted_few : (now i : ℕ) (last was : F) (olds news accepted : List Alert) (refused : List ℕ) → AreJudged filter now last was i olds news accepted refused → length accepted ≤ length news
  accepted_few now i last was olds [] accepted refused h = subst (λ (xs : List Alert). length xs ≤ 0) (sym h.0) (omega arith)
  accepted_few now i last was olds (new ∷ news) accepted refused (accepts, is, others, rest, judges, a, r, more) =
      let other = accepted_few now (i + 1) last is (cond accepts (absorb_into now new olds) olds) news others rest in
      grind arith

  pub accepted_all : (P : Alert → Type 0) (now i : ℕ) (last was : F) (olds news accepted : List Alert) (refused : List ℕ) → All P news → AreJudged filter now last was i olds news accepted refused → All P accepted
  accepted_all P now i last was olds [] accepted refused all h = subst (All P) (sym h.0) (All-nil P)
  accepted_all P now i last was olds (new ∷ news) accepted refused all (accepts, is, others, rest, judges, a, r, more) =
      let rest = accepted_all P now (i + 1) last is (cond accepts (absorb_into now new olds) olds) news others rest (All-tail P new news all) more in
      subst (All P) (sym a) (one_more accepts others (All-head P new news all) rest)
    where
      one_more : (b : Bool) (others : List Alert) → P new → All P others → All P (cond b (new ∷ others) others)
      one_more true others first rest = All-cons P new others first rest
      one_more false others first rest = rest
