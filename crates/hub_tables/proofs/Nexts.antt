-- The agenda goes by the next line of each session, and by nothing else of what is left.
use Rattle.std.proofs.Common.{◌≡◌, ℕ, zero, suc, ◌-◌, ◌==◌, Bool, ◌||◌, List, [], ◌∷◌, Option, None, Some, cond, length, min, slice_get, refl, ap, ◌∙◌, if◌then◌else◌}
use Rattle.std.specs.List.{filter, range_with_len}
use Rattle.script_lang.specs.declared.scripts.Phase.{Phase}
use Rattle.mount_log.specs.declared.logs.ReplyLine.{ReplyLine}
use Rattle.mount_log.specs.declared.logs.SentLine.{SentLine}
use Rattle.mount_log.specs.declared.places.LineAt.{LineAt}
use Rattle.hub_tables.specs.Agendas.{AgendaState, begun_by, with_phase, has_ended, moved_on, with_sends, with_replies, next_agenda}
use Rattle.hub_tables.specs.PhaseControls.{no_controls, with_controls}
use Rattle.hub_tables.specs.Sessions.{ProgressState, is_of_phase, after_reply, after_replies, begun, behind}
use Rattle.hub_tables.specs.SmallSets.{numbers_where, is_among}

filter_so : (f g : ℕ → Bool) → ((n : ℕ) → f n ≡ g n) → (ns : List ℕ) → filter f ns ≡ filter g ns
filter_so f g same [] = refl
filter_so f g same (n ∷ ns) =
    ap (λ (b : Bool). cond b (n ∷ filter f ns) (filter f ns)) (same n) ∙ ap (λ (rest : List ℕ). cond (g n) (n ∷ rest) rest) (filter_so f g same ns)

where_so : (f g : ℕ → Bool) → ((n : ℕ) → f n ≡ g n) → numbers_where f ≡ numbers_where g
unfolding numbers_where
where_so f g same = filter_so f g same (range_with_len 0 64)

module _ (next other : ℕ → Option LineAt) (same : (session : ℕ) → next session ≡ other session) where
  reply_so : (p : ProgressState) (session : ℕ) → after_reply next p session ≡ after_reply other p session
  reply_so p session = ap (λ (at : Option LineAt). record p {
    ready = if is_of_phase p.phase at then numbers_where (λ s. (session == s) || is_among s p.ready) else p.ready;
    unanswered = p.unanswered - 1;
  }) (same session)

  replies_so : (replies : List ReplyLine) (p : ProgressState) → after_replies next p replies ≡ after_replies other p replies
  replies_so [] p = refl
  replies_so (r ∷ rs) p = replies_so rs (after_reply next p r.session) ∙ ap (λ (q : ProgressState). after_replies other q rs) (reply_so p r.session)

  begun_so : (p : ProgressState) (phase : Phase) → begun next p phase ≡ begun other p phase
  begun_so p phase = ap (λ (ready : List ℕ). record p { ready = ready; unanswered = min (length phase.calls) 4294967295 })
      (where_so (λ s. is_of_phase p.phase (next s)) (λ s. is_of_phase p.phase (other s)) (λ s. ap (is_of_phase p.phase) (same s)))

  by_so : (a : AgendaState) (phase : Option Phase) → begun_by next a phase ≡ begun_by other a phase
  by_so a None = refl
  by_so a (Some phase) = ap (λ (p : ProgressState). record a { progress = p; controls = with_controls no_controls 0 phase.controls }) (begun_so a.progress phase)

  pub with_phase_so : (phases : List Phase) (a : AgendaState) → with_phase next phases a ≡ with_phase other phases a
  with_phase_so phases a = by_so a (slice_get phases a.progress.phase)

  pub moved_on_so : (phases : List Phase) (idle : Bool) (more : ℕ) (a : AgendaState) → moved_on next phases idle more a ≡ moved_on other phases idle more a
  moved_on_so phases idle zero a = refl
  moved_on_so phases idle (suc more) a =
      let left : AgendaState = record a { progress = behind a.progress } in
      ap (λ (b : AgendaState). if has_ended phases idle a then b else a)
      (ap (moved_on next phases idle more) (with_phase_so phases left) ∙ moved_on_so phases idle more (with_phase other phases left))

  pub next_agenda_so : (phases : List Phase) (idle : Bool) (replies : List ReplyLine) (sent : List SentLine) (answered : Bool) (a : AgendaState) → next_agenda next phases idle replies sent answered a ≡ next_agenda other phases idle replies sent answered a
  next_agenda_so phases idle replies sent answered a =
      moved_on_so phases idle (length phases) (with_replies next (with_sends a sent) replies answered)
      ∙ ap (λ (p : ProgressState). moved_on other phases idle (length phases) (record (with_replies other (with_sends a sent) replies answered) { progress = p })) (replies_so replies a.progress)
