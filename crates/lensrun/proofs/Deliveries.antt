-- What was delivered, where it was the outcome.
use Rattle.std.proofs.Common.{◌≡◌, ◌≢◌, ◌⊎◌, ℕ, ◌+◌, ◌*◌, ◌<◌, List, Option, Some, None, subst, ap, sym, refl, ◌∙◌, inl, inr, arith}
use Rattle.lensio.specs.Count.{Rose, RoseBy}
use Rattle.lensio.specs.Held.{Files}
use Rattle.lensio.specs.Taken.{Takes, TakesFront}
use Rattle.lensmodel.specs.Call.Answer.{Contents, Answer}
use Rattle.lensmodel.specs.Call.TopCall.{Command, index, glass, read, trace, trace_json, first, seidel}
use Rattle.lensmodel.specs.declared.status.Status.{Status}
use Rattle.lensmodel.specs.declared.status.Status.TheVariants.{Done, Usage, Refused, Absent, ReadFault, TooLong, WriteFault, Memory}
use Rattle.lensrun.specs.Built.{command_of, outcome}
use Rattle.lensrun.specs.Due.{due_answer, preparations, Delivers, DueHolds, IsNoTrace, IsStreamed}
use Rattle.lensrun.specs.Found.{IsCounted}
use Rattle.lensrun.specs.Promise.{BeginsNoReport, IsAnswered, IsComplete, IsDecided, IsDue, IsDueOf, IsStreamedReport, OfFiles, Prepares, PreparesLens, WritesDueFront, WritesReportFront, WritesReadFault, WritesReadFaultFront, WritesWanting, by_name}
use Rattle.lensrun.specs.declared.due.Due.{Due}
use Rattle.lensrun.specs.declared.due.Due.TheVariants.{Line, Glasses, Lens, Trace, TraceJson, First, Seidel, Nothing}
use Rattle.lensrun.proofs.Meaning.{outcome-is, outcome-means}
use Rattle.lensrun.proofs.Outcomes.{OfFiles-map, OfFiles-of}

-- ---- what is due is a trace, or isn't
IsTrace : Due → Type 0
IsTrace due = (IsNoTrace due → ⊥) × ((due_answer due).status ≡ Done)

trace-or-none : (due : Due) → IsTrace due ⊎ (preparations due ≡ 0)
unfolding IsTrace
trace-or-none (Line status text) = inr refl
trace-or-none (Glasses book) = inr refl
trace-or-none (Lens file) = inr refl
trace-or-none (Trace t) = inl (λ unlike. unlike, refl)
trace-or-none (TraceJson t) = inl (λ unlike. unlike, refl)
trace-or-none (First p) = inr refl
trace-or-none (Seidel p) = inr refl
trace-or-none Nothing = inr refl

-- rows in JSON are a report
streamed-done : (due : Due) → IsStreamed due → (due_answer due).status ≡ Done
streamed-done (Line status text) s = absurd s
streamed-done (Glasses book) s = absurd s
streamed-done (Lens file) s = absurd s
streamed-done (Trace t) s = absurd s
streamed-done (TraceJson t) s = refl
streamed-done (First p) s = absurd s
streamed-done (Seidel p) s = absurd s
streamed-done Nothing s = absurd s

streamed-unlike : (due : Due) → IsStreamed due → IsNoTrace due → ⊥
streamed-unlike (TraceJson t) s unlike = unlike
streamed-unlike (Trace t) s unlike = s
streamed-unlike (Line status text) s unlike = s
streamed-unlike (Glasses book) s unlike = s
streamed-unlike (Lens file) s unlike = s
streamed-unlike (First p) s unlike = s
streamed-unlike (Seidel p) s unlike = s
streamed-unlike Nothing s unlike = s

streamed-command : (files : Contents) (c : Option Command) (due : Due) → IsStreamed due → IsAnswered files c due → IsStreamedReport c
streamed-command files None due s a = streamed-unlike due s a.rests
streamed-command files (Some (index i)) due s a = streamed-unlike due s a.rests
streamed-command files (Some (glass i)) due s a = streamed-unlike due s a.rests
streamed-command files (Some (read i)) due s a = streamed-unlike due s a.rests
streamed-command files (Some (trace i)) due s a = let r = a.rests (streamed-done due s) in absurd (subst IsStreamed r.1 s)
streamed-command files (Some (trace_json i)) due s a = tt
streamed-command files (Some (first i)) due s a = let r = a.rests (streamed-done due s) in absurd (subst IsStreamed r.1 s)
streamed-command files (Some (seidel i)) due s a = let r = a.rests (streamed-done due s) in absurd (subst IsStreamed r.1 s)

module _ (held : Option Files) (said : List (List ℕ)) (due : Due) (ended : Status) (old new : Option (List ℕ)) (before now : ℕ)
    (h : IsDueOf held (command_of said) due) (d : Delivers due ended old new before now) where
  -- the call ended as it was due, unless the sink failed or memory for a line was wanting
  ended-as_due : ended ≢ WriteFault → ended ≢ Memory → ended ≡ (due_answer due).status
  ended-as_due sound enough = elim d [ inl done ↦ done.0 | inr (inl failed) ↦ absurd (sound failed.0) | inr (inr wanting) ↦ absurd (enough wanting.0) ]

  due_if_taken : (files : Contents) → (ended ≡ Done → DueHolds due) → ended ≡ (due_answer due).status → Takes old new (due_answer due).text
      → IsAnswered files (command_of said) due → IsDue said ended old new files
  due_if_taken files holds e t is =
      let whole : due_answer due ≡ outcome files said = is.answer ∙ outcome-is files said in
      record {
        status = e ∙ ap (λ (x : Answer). x.status) whole;
        text = subst (λ (x : Answer). Takes old new x.text) whole t;
        means = outcome-means files said due is (λ done. holds (e ∙ done));
      }

  -- an outcome that was delivered is what was due
  pub due_if_delivered : (ended ≡ Done → DueHolds due) → IsDecided ended → OfFiles held (IsDue said ended old new)
  due_if_delivered holds decided = elim d [
    | inl done ↦
        OfFiles-map held (λ files. IsAnswered files (command_of said) due) (IsDue said ended old new)
        (λ files is. due_if_taken files holds done.0 done.1 is) (h.outcome (subst IsDecided done.0 decided))
    | inr (inl failed) ↦ absurd (subst IsDecided failed.0 decided)
    | inr (inr wanting) ↦ absurd (subst IsDecided wanting.0 decided)
  ]

  -- a front of the outcome
  front_if_decided : TakesFront old new (due_answer due).text → IsDecided (due_answer due).status → WritesDueFront held said old new
  front_if_decided t decided =
      OfFiles-map held (λ files. IsAnswered files (command_of said) due) (λ files. TakesFront old new (outcome files said).text)
      (λ files is. subst (λ (x : Answer). TakesFront old new x.text) (is.answer ∙ outcome-is files said) t) (h.outcome decided)

  -- ---- a front of what was due, to a sink that failed
  module _ (P : Type 0) (cause : (due_answer due).status ≡ ReadFault → P) (silent : due ≡ Nothing → ended ≡ Memory) where
    WritesFront : Type 0
    WritesFront = WritesDueFront held said old new ⊎ (P × WritesReadFaultFront held said old new)

    front_by : (s : Status) → (due_answer due).status ≡ s → (s ≢ Memory) → TakesFront old new (due_answer due).text → WritesFront
    unfolding WritesFront
    front_by Done e unheld t = inl (front_if_decided t (subst IsDecided (sym e) tt))
    front_by Usage e unheld t = inl (front_if_decided t (subst IsDecided (sym e) tt))
    front_by Refused e unheld t = inl (front_if_decided t (subst IsDecided (sym e) tt))
    front_by Absent e unheld t = inl (front_if_decided t (subst IsDecided (sym e) tt))
    front_by TooLong e unheld t = inl (front_if_decided t (subst IsDecided (sym e) tt))
    front_by ReadFault e unheld t = inr (cause e, ((due_answer due).text, h.read_fault e, t))
    front_by WriteFault e unheld t = absurd (h.no_write e)
    front_by Memory e unheld t = absurd (unheld refl)

    pub front_if_delivered : ended ≡ WriteFault → WritesDueFront held said old new ⊎ (P × WritesReadFaultFront held said old new)
    unfolding WritesFront
    front_if_delivered failed = elim d [
      | inl done ↦ absurd (h.no_write (sym done.0 ∙ failed))
      | inr (inl front) ↦ front_by (due_answer due).status refl (λ e. cc (sym failed ∙ silent (h.nothing e))) front.2
      | inr (inr wanting) ↦ absurd (cc (sym failed ∙ wanting.0))
    ]

  -- the line of a failed read
  pub read_fault_if_delivered : ended ≡ ReadFault → WritesReadFault held said old new
  read_fault_if_delivered is = elim d [
    | inl done ↦ ((due_answer due).text, h.read_fault (sym done.0 ∙ is), done.1)
    | inr (inl failed) ↦ absurd (cc (sym is ∙ failed.0))
    | inr (inr wanting) ↦ absurd (cc (sym is ∙ wanting.0))
  ]

  -- the command of rows in JSON
  streamed-report : IsStreamed due → IsStreamedReport (command_of said)
  streamed-report s =
      OfFiles-of held (IsStreamedReport (command_of said))
      (OfFiles-map held (λ files. IsAnswered files (command_of said) due) (λ files. IsStreamedReport (command_of said))
      (λ files a. streamed-command files (command_of said) due s a) (h.outcome (subst IsDecided (sym (streamed-done due s)) tt)))

  -- a front of such a report
  report_front : IsStreamed due → TakesFront old new (due_answer due).text → WritesReportFront held said old new
  report_front s t =
      OfFiles-map held (λ files. IsAnswered files (command_of said) due)
      (λ files. ((outcome files said).status ≡ Done) × TakesFront old new (outcome files said).text)
      (λ files is.
      let whole : due_answer due ≡ outcome files said = is.answer ∙ outcome-is files said in
      (sym (ap (λ (x : Answer). x.status) whole) ∙ streamed-done due s, subst (λ (x : Answer). TakesFront old new x.text) whole t))
      (h.outcome (subst IsDecided (sym (streamed-done due s)) tt))

  -- nothing for want of memory, or a front of rows in JSON
  pub silent_if_delivered : ended ≡ Memory → WritesWanting held said old new
  silent_if_delivered is = elim d [
    | inl done ↦ inl (subst (λ (x : Due). Takes old new (due_answer x).text) (h.nothing (sym done.0 ∙ is)) done.1)
    | inr (inl failed) ↦ absurd (cc (sym is ∙ failed.0))
    | inr (inr wanting) ↦
        inr (streamed-report wanting.1, report_front wanting.1 wanting.2)
  ]

  -- ---- the surfaces that were prepared
  module _ (steps steps' : ℕ) (risen : steps' ≡ steps + preparations due) where
    unprepared : preparations due ≡ 0 → steps' ≡ steps
    unprepared none = omega (arith, risen, none)

    pub no_report-no_steps : BeginsNoReport (command_of said) ended → steps' ≡ steps
    unfolding IsTrace
    no_report-no_steps none = elim (trace-or-none due) [
      | inl is ↦ elim d [
        | inl done ↦ absurd (subst (BeginsNoReport (command_of said)) (done.0 ∙ is.1) none)
        | inr (inl failed) ↦ absurd (subst (BeginsNoReport (command_of said)) failed.0 none)
        | inr (inr wanting) ↦ absurd (subst (BeginsNoReport (command_of said)) wanting.0 none (streamed-report wanting.1))
      ]
      | inr none_due ↦ unprepared none_due
    ]

    prepares_by : (files : Contents) (c : Option Command) → IsTrace due → IsAnswered files c due → PreparesLens files c steps steps'
    unfolding IsTrace
    prepares_by files None is a = is.0 a.rests
    prepares_by files (Some (index i)) is a = is.0 a.rests
    prepares_by files (Some (glass i)) is a = is.0 a.rests
    prepares_by files (Some (read i)) is a = is.0 a.rests
    prepares_by files (Some (first i)) is a = let r = a.rests is.1 in is.0 (subst IsNoTrace (sym r.1) tt)
    prepares_by files (Some (seidel i)) is a = let r = a.rests is.1 in is.0 (subst IsNoTrace (sym r.1) tt)
    prepares_by files (Some (trace i)) is a = let r = a.rests is.1 in (r.0.setup, r.0.job, r.2, risen ∙ ap (λ y. steps + preparations y) r.1)
    prepares_by files (Some (trace_json i)) is a = let r = a.rests is.1 in (r.0.setup, r.0.job, r.2, risen ∙ ap (λ y. steps + preparations y) r.1)

    pub prepares : Prepares held said steps steps'
    unfolding IsTrace
    prepares = elim (trace-or-none due) [
      | inl is ↦
          inr (OfFiles-map held (λ files. IsAnswered files (command_of said) due) (λ files. PreparesLens files (command_of said) steps steps')
          (λ files a. prepares_by files (command_of said) is a) (h.outcome (subst IsDecided (sym is.1) tt)))
      | inr none_due ↦ inl (unprepared none_due)
    ]

-- ---- what the outside counted
module _ (held : Option Files) (said : List (List ℕ)) (due : Due) (ended : Status) (old new : Option (List ℕ)) (before now : ℕ)
    (h : IsDueOf held (command_of said) due) (d : Delivers due ended old new before now)
    (n f f' a a' g g' : ℕ) (counts : IsCounted (Some (due_answer due).status) n f f' a a' g g') where
  some-same : {s t : Status} → Some s ≡ Some t → s ≡ t
  some-same is = cc is

  -- an end that the sink and memory don't make
  as_due : (s : Status) → s ≢ WriteFault → s ≢ Memory → ended ≡ s → (due_answer due).status ≡ s
  as_due s sound enough e = sym (ended-as_due held said due ended old new before now h d (λ w. sound (sym e ∙ w)) (λ m. enough (sym e ∙ m))) ∙ e

  pub absent-counted : ended ≡ Absent → Rose a a'
  absent-counted e = counts.absent (ap Some (as_due Absent (λ w. cc) (λ m. cc) e))

  pub read_fault-counted : ended ≡ ReadFault → Rose f f'
  read_fault-counted e = counts.read_fault (ap Some (as_due ReadFault (λ w. cc) (λ m. cc) e))

  pub too_long-counted : ended ≡ TooLong → RoseBy 16_777_217 g g'
  too_long-counted e = counts.too_long (ap Some (as_due TooLong (λ w. cc) (λ m. cc) e))

  -- what is due in place of which memory was wanting is a report
  unlike : (s : Status) → s ≢ Done → ended ≢ s → ended ≢ WriteFault → (due_answer due).status ≢ s
  unlike s other not sound e = elim d [
    | inl done ↦ not (done.0 ∙ e)
    | inr (inl failed) ↦ sound failed.0
    | inr (inr wanting) ↦ other (sym e ∙ streamed-done due wanting.1)
  ]

  pub calm-counted : ended ≢ ReadFault → ended ≢ WriteFault → f' ≡ f
  calm-counted not sound = counts.calm (λ e. unlike ReadFault (λ o. cc) not sound (some-same e))

  pub found-counted : ended ≢ Absent → ended ≢ WriteFault → a' ≡ a
  found-counted not sound = counts.found (λ e. unlike Absent (λ o. cc) not sound (some-same e))

  is_too_long : (s : Status) → (s ≡ TooLong) ⊎ (s ≢ TooLong)
  is_too_long TooLong = inl refl
  is_too_long Done = inr (λ e. cc)
  is_too_long Usage = inr (λ e. cc)
  is_too_long Refused = inr (λ e. cc)
  is_too_long Absent = inr (λ e. cc)
  is_too_long ReadFault = inr (λ e. cc)
  is_too_long WriteFault = inr (λ e. cc)
  is_too_long Memory = inr (λ e. cc)

  pub too_long-where : g + n * 16_777_216 < g' → (ended ≡ TooLong) ⊎ (ended ≡ WriteFault)
  too_long-where more = elim (is_too_long (due_answer due).status) [
    | inl is ↦ elim d [
      | inl done ↦ inl (done.0 ∙ is)
      | inr (inl failed) ↦ inr failed.0
      | inr (inr wanting) ↦ absurd (cc (sym is ∙ streamed-done due wanting.1))
    ]
    | inr not ↦ let w = counts.within (λ e. not (some-same e)) in absurd (omega (arith, more, w))
  ]

  -- a report that is due is written where nothing of the outside fails
  complete_by : (files : Files) → held ≡ Some files → ¬ Rose f f' → (outcome (by_name files) said).status ≡ Done → ended ≡ (due_answer due).status
      → (ended ≡ Done) ⊎ (ended ≡ Memory)
  complete_by files told calm done sound-end = by (due_answer due).status refl
    where
      ends-done : IsDecided (due_answer due).status → (due_answer due).status ≡ Done
      ends-done decided =
          let a : IsAnswered (by_name files) (command_of said) due = subst (λ (o : Option Files). OfFiles o (λ files. IsAnswered files (command_of said) due)) told (h.outcome decided) in
          ap (λ (x : Answer). x.status) (a.answer ∙ outcome-is (by_name files) said) ∙ done

      by : (s : Status) → (due_answer due).status ≡ s → (ended ≡ Done) ⊎ (ended ≡ Memory)
      by Done e = inl (sound-end ∙ e)
      by Memory e = inr (sound-end ∙ e)
      by Usage e = inl (sound-end ∙ ends-done (subst IsDecided (sym e) tt))
      by Refused e = inl (sound-end ∙ ends-done (subst IsDecided (sym e) tt))
      by Absent e = inl (sound-end ∙ ends-done (subst IsDecided (sym e) tt))
      by TooLong e = inl (sound-end ∙ ends-done (subst IsDecided (sym e) tt))
      by ReadFault e = absurd (calm (counts.read_fault (ap Some e)))
      by WriteFault e = absurd (h.no_write e)

  pub complete : ¬ Rose f f' → ¬ Rose before now → IsComplete held said ended
  complete calm sound = by held refl
    where
      by : (o : Option Files) → held ≡ o → IsComplete o said ended
      by None told = tt
      by (Some files) told = λ done. elim d [
        | inl ends ↦ complete_by files told calm done ends.0
        | inr (inl failed) ↦ absurd (sound failed.1)
        | inr (inr wanting) ↦ inr wanting.0
      ]
