-- The laws of the kinds of step.
use Rattle.std.proofs.Common.{Some, ℕ, ◌+◌, ◌%◌, ◌^◌, [], ◌∷◌, ◌==◌, sym, ◌∙◌, true≢false}
use mathlib.Core.Option.{none}
use prog.Atomic.{either}
use Rattle.atomic_table.specs.Table.{step}
use Rattle.am_steps.specs.declared.event.Event.TheVariants as does
use Rattle.am_cast.specs.Rule.{lane_word, writer_word}
use Rattle.am_cast.specs.Steps.{Opens, Looks, Takes, Passes, Leaves, Harvests, Recovers, Cuts, Admits, Retires, Reclaims, Publishes, Closes, Reaches, Lays, Gathers, Clears}
use Rattle.am_cast.specs.Core.{found_events, recover_events, cut_events, reclaim_events}
use Rattle.am_cast.proofs.Ties.{shown_as}
use Rattle.am_cast.specs.Laws.{OpensTheLane, LooksAtTheLog, TakesTheKey, PassesThePlace, LeavesBare, LeavesWithKey, FindsTheWord, RecoversTheKey, CutsTheLane, AdmitsTheLane, RetiresTheLane, ReclaimsTheLane, PublishesTheBatch, ClosesTheLog, ReachesASlot, LaysAKey, GathersAKey, ClearsASlot}
use Rattle.am_cast.proofs.steps.Admit.{admits_as}
use Rattle.am_cast.proofs.steps.Clear.{clears_as}
use Rattle.am_cast.proofs.steps.Close.{closes_as}
use Rattle.am_cast.proofs.steps.Cut.{cuts_as}
use Rattle.am_cast.proofs.steps.Gather.{gathers_as}
use Rattle.am_cast.proofs.steps.Harvest.{harvests_as}
use Rattle.am_cast.proofs.steps.Lay.{lays_as}
use Rattle.am_cast.proofs.steps.Leave.{leaves_as}
use Rattle.am_cast.proofs.steps.Look.{looks_as}
use Rattle.am_cast.proofs.steps.Open.{opens_as}
use Rattle.am_cast.proofs.steps.Pass.{passes_as}
use Rattle.am_cast.proofs.steps.Publish.{publishes_as}
use Rattle.am_cast.proofs.steps.Reach.{reaches_as}
use Rattle.am_cast.proofs.steps.Reclaim.{reclaims_as}
use Rattle.am_cast.proofs.steps.Recover.{recovers_as}
use Rattle.am_cast.proofs.steps.Retire.{retires_as}
use Rattle.am_cast.proofs.steps.Take.{takes_as}

module _ (B K A : Type 0) (key : B → ℕ → K) where
  pub opens_law : OpensTheLane B K A key
  opens_law = λ slots id me v is here fresh. shown_as key slots id me (lane_word v.number) (λ n. n) (λ _. does.Open v.number ∷ []) (Opens (step slots (lane_word v.number) 0 0 none) me) (opens_as key slots id me v is here fresh)

  pub looks_law : LooksAtTheLog B K A key
  looks_law = λ slots id me v is begun. shown_as key slots id me 0 (λ n. n) (λ _. does.Look v.number ∷ []) (Looks (step slots 0 0 0 none) me) (looks_as key slots id me v is begun)

  pub takes_law : TakesTheKey B K A key
  takes_law = λ slots id me v old new is begun held below old_is new_is. shown_as key slots id me (lane_word v.number) (λ n. either (n == old) new n) (λ _. does.Take v.number ∷ []) (Takes key (step slots (lane_word v.number) old new none) me) (takes_as key slots id me v old new is begun held below old_is new_is)

  pub passes_law : PassesThePlace B K A key
  passes_law = λ slots id me v x cs is begun held next carried. shown_as key slots id me (lane_word v.number) (λ n. (n + 2) % 2 ^ 64) (λ _. does.Pass v.number ∷ []) (Passes (step slots (lane_word v.number) 2 0 none) me) (passes_as key slots id me v x cs is begun held next carried)

  pub leaves_bare_law : LeavesBare B K A key
  leaves_bare_law = λ slots id me v new is begun held new_is. shown_as key slots id me (lane_word v.number) (λ _. new) (λ _. does.Leave v.number ∷ []) (λ _. Leaves (step slots (lane_word v.number) new 0 none) me new) (leaves_as key slots id me v new is begun (λ e. absurd (true≢false (sym e ∙ held))) new_is)

  pub leaves_full_law : LeavesWithKey B K A key
  leaves_full_law = λ slots id me v x cs new is begun held next carried new_is. shown_as key slots id me (lane_word v.number) (λ _. new) (λ _. does.Leave v.number ∷ []) (λ _. Leaves (step slots (lane_word v.number) new 0 none) me new) (leaves_as key slots id me v new is begun (λ _. (x, cs, next, carried)) new_is)

  pub harvests_law : FindsTheWord B K A key
  harvests_law = λ slots id me l q b has alive unlaid. shown_as key slots id me (lane_word l) (λ n. n) (found_events l) (Harvests (step slots (lane_word l) 0 0 none) me) (harvests_as key slots id me l q b has alive unlaid)

  pub recovers_law : RecoversTheKey B K A key
  recovers_law = λ slots id me l q b has is_cut is_away all_clear bare. shown_as key slots id me (lane_word l) (λ n. n) (recover_events l) (Recovers (step slots (lane_word l) 0 0 none) me) (recovers_as key slots id me l q b has is_cut is_away all_clear bare)

  pub cuts_law : CutsTheLane B K A key
  cuts_law = λ slots id me l q b old new has alive all_clear full bare unlaid not_gone old_is half_is new_is. shown_as key slots id me (lane_word l) (λ n. either (n == old) new n) (cut_events l old) (Cuts (step slots (lane_word l) old new none) me) (cuts_as key slots id me l q b old new has alive all_clear full bare unlaid not_gone old_is half_is new_is)

  pub admits_law : AdmitsTheLane B K A key
  admits_law = λ note slots id me l q b new has is_open resting all_clear bare unlaid new_is. shown_as key slots id me (lane_word l) (λ _. new) (λ _. does.Admit l ∷ []) (λ _. Admits note (step slots (lane_word l) new 0 none) me new) (admits_as key note slots id me l q b new has is_open resting all_clear bare unlaid new_is)

  pub retires_law : RetiresTheLane B K A key
  retires_law = λ slots id me v q b new is has begun hand bare unlaid all_clear new_is. shown_as key slots id me (lane_word v.number) (λ _. new) (λ _. does.Leave v.number ∷ does.Retire v.number ∷ []) (λ _. Retires (step slots (lane_word v.number) new 0 none) me new) (retires_as key slots id me v q b new is has begun hand bare unlaid all_clear new_is)

  pub reclaims_law : ReclaimsTheLane B K A key
  reclaims_law = λ slots id me l q b has used bare unlaid all_clear. shown_as key slots id me (lane_word l) (λ n. n) (reclaim_events l b.stand) (Reclaims (step slots (lane_word l) 0 0 none) me) (reclaims_as key slots id me l q b has used bare unlaid all_clear)

  pub publishes_law : PublishesTheBatch B K A key
  publishes_law = λ x slots id me q new is is_open few ready new_is. shown_as key slots id me 0 (λ _. new) (λ _. does.Publish x ∷ []) (λ _. Publishes (Some x) (step slots 0 new 0 none) me new) (publishes_as key x slots id me q new is is_open few ready new_is)

  pub closes_law : ClosesTheLog B K A key
  closes_law = λ slots id me q new is is_open new_is. shown_as key slots id me 0 (λ _. new) (λ _. does.Close ∷ []) (λ _. Closes (step slots 0 new 0 none) me new) (closes_as key slots id me q new is is_open new_is)

  pub reaches_law : ReachesASlot B K A key
  reaches_law = λ slots id me l q b has alive bare unlaid space. shown_as key slots id me (writer_word l) (λ n. n) (λ _. []) (Reaches (step slots (writer_word l) 0 0 none) me) (reaches_as key slots id me l q b has alive bare unlaid space)

  pub lays_law : LaysAKey B K A key
  lays_law = λ slots id me l q b x cs has alive is_out space carried. shown_as key slots id me (writer_word l) (λ n. n) (λ _. []) (Lays (step slots (writer_word l) 0 0 none) me) (lays_as key slots id me l q b x cs has alive is_out space carried)

  pub gathers_law : GathersAKey B K A key
  gathers_law = λ slots id me l q b has bare low other. shown_as key slots id me (writer_word l) (λ n. n) (λ _. []) (Gathers key (step slots (writer_word l) 0 0 none) me) (gathers_as key slots id me l q b has bare low other)

  pub clears_law : ClearsASlot B K A key
  clears_law = λ slots id me l q b cs has is_out low other carried. shown_as key slots id me (writer_word l) (λ n. n) (λ _. []) (Clears (step slots (writer_word l) 0 0 none) me) (clears_as key slots id me l q b cs has is_out low other carried)
