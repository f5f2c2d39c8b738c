-- What is due for the words of a call, from what its files gave.
use Rattle.std.proofs.Common.{◌≡◌, ◌≢◌, ◌⊎◌, ℕ, List, [], ◌∷◌, inl, inr, Option, Some, None, Result, Ok, Err, refl, sym, ap, subst, ◌∙◌, arith}
use Rattle.lensio.specs.Held.{Files}
use Rattle.lensmodel.specs.Call.Answer.{Contents, Answer, answer, on_checked}
use Rattle.lensmodel.specs.Call.Inputs.{Inputs, AreInputs, inputs_named, on_inputs}
use Rattle.lensmodel.specs.Call.TopCall.{Command, answer_of, files_of}
use Rattle.lensmodel.specs.Texts.FaultText.{absent_line, usage_line}
use Rattle.lensmodel.specs.declared.fault.CrossFault.{CrossFault}
use Rattle.lensmodel.specs.declared.job.Job.{Job}
use Rattle.lensmodel.specs.declared.setup.Setup.{Setup}
use Rattle.lensmodel.specs.declared.status.FileKind.{FileKind}
use Rattle.lensmodel.specs.declared.status.Status.{Status}
use Rattle.lensmodel.specs.declared.status.Status.TheVariants.{Done, Usage, Refused, Absent, ReadFault, TooLong, WriteFault, Memory}
use Rattle.lensrun.specs.Due.{due_answer, IsReady, IsNoTrace, RestsOn}
use Rattle.lensrun.specs.Found.{IsFound, Gives, GivesNone, over_file}
use Rattle.lensrun.specs.Joined.{MakesSetup, MakesNone, IsInputFault}
use Rattle.lensrun.specs.Promise.{IsAnswered, IsDueOf, IsFaultOf, OfFiles, by_name, without}
use Rattle.lensrun.specs.declared.due.Due.{Due}
use Rattle.lensrun.specs.declared.due.Due.TheVariants.{Line, Glasses, Lens, Trace, TraceJson, First, Seidel, Nothing}
use Rattle.lensrun.proofs.Outcomes.{OfFiles-map}
use Rattle.lensrun.proofs.Stopping.{given, stopped, no_report, no_write, is_nothing, fault_line}

-- the statuses of what is due where no file is wanting
IsPlain : Status → Type 0
IsPlain Done = Unit {0}
IsPlain Refused = Unit {0}
IsPlain Usage = Unit {0}
IsPlain Absent = ⊥
IsPlain ReadFault = ⊥
IsPlain TooLong = ⊥
IsPlain WriteFault = ⊥
IsPlain Memory = ⊥

-- due, where the answer is there whatever the outside does
plain_due : (held : Option Files) (c : Option Command) (due : Due) → IsPlain (due_answer due).status → OfFiles held (λ files. IsAnswered files c due)
    → IsDueOf held c due
unfolding IsPlain
plain_due held c due plain is = record {
  outcome = λ decided. is;
  read_fault = λ e. absurd (subst IsPlain e plain);
  no_write = λ e. subst IsPlain e plain;
  nothing = λ e. absurd (subst IsPlain e plain);
}

-- what isn't a report can be written at once
pub no_trace-if : (due : Due) → (due_answer due).status ≢ Done → IsNoTrace due
no_trace-if (Line status text) h = tt
no_trace-if (Glasses book) h = tt
no_trace-if (Lens file) h = tt
no_trace-if (Trace t) h = absurd (h refl)
no_trace-if (TraceJson t) h = absurd (h refl)
no_trace-if (First p) h = tt
no_trace-if (Seidel p) h = tt
no_trace-if Nothing h = tt

pub ready-no_report : (due : Due) → (due_answer due).status ≢ Done → IsReady due
ready-no_report (Line status text) h = tt
ready-no_report (Glasses book) h = tt
ready-no_report (Lens file) h = tt
ready-no_report (Trace t) h = absurd (h refl)
ready-no_report (TraceJson t) h = absurd (h refl)
ready-no_report (First p) h = absurd (h refl)
ready-no_report (Seidel p) h = absurd (h refl)
ready-no_report Nothing h = tt

-- words that fit no command
pub usage_due : (held : Option Files) (due : Due) → due_answer due ≡ answer Usage usage_line → IsDueOf held None due
unfolding IsPlain
usage_due held due is = plain_due held None due (subst (λ (x : Answer). IsPlain x.status) (sym is) tt) (answered held)
  where
    answered : (held : Option Files) → OfFiles held (λ files. IsAnswered files None due)
    answered None = (λ _ _. None, record { answer = is; rests = no_trace-if due (λ e. cc (sym e ∙ ap (λ (x : Answer). x.status) is)) })
    answered (Some files) = record { answer = is; rests = no_trace-if due (λ e. cc (sym e ∙ ap (λ (x : Answer). x.status) is)) }

pub ready-none : {V F : Type 0} (held : Option Files) (file : FileKind) (name : List ℕ) (cause : F → List ℕ) (reading : List ℕ → Result V F) (due : Due)
    → GivesNone held file name cause reading due → IsReady due
ready-none held file name cause reading due none = ready-no_report due (no_report held file name cause reading due none)

-- a cross check ends in a refusal, or in what follows it
pub checked-ends : {V : Type 0} (r : Result V CrossFault) (text : V → List ℕ)
    → ((on_checked r (λ v. answer Done (text v))).status ≡ Done) ⊎ ((on_checked r (λ v. answer Done (text v))).status ≡ Refused)
checked-ends (Ok v) text = inl refl
checked-ends (Err fault) text = inr refl

-- ---- a command over one file
module _ {V F : Type 0} (held : Option Files) (c : Command) (file : FileKind) (name : List ℕ) (cause : F → List ℕ) (reading : List ℕ → Result V F)
    (go_on : V → Answer)
    (over : (files : Contents) → answer_of files c ≡ over_file held file name cause reading (files file name) go_on)
    (missing : (files : Contents) → answer_of (without file files) c ≡ answer Absent (absent_line file))
    (named : files_of c ≡ (file, name) ∷ [])
    (rests : (files : Contents) (due : Due) → IsNoTrace due → RestsOn files (Some c) due) where
  -- files that have what was found
  having : (held' : Option Files) (found : Option (List ℕ)) → IsFound held' name found → OfFiles held' (λ files. files file name ≡ found)
  having None found h = (λ _ _. found, refl)
  having (Some files) found h = h

  some_files : (held' : Option Files) (P : Contents → Type 0) → ((files : Contents) → P files) → OfFiles held' P
  some_files None P f = (λ _ _. None, f (λ _ _. None))
  some_files (Some files) P f = f (by_name files)

  pub one_given : (v : V) (due : Due) → Gives held file name cause reading v → due_answer due ≡ go_on v → IsNoTrace due
      → ((go_on v).status ≡ Done) ⊎ ((go_on v).status ≡ Refused) → IsDueOf held (Some c) due
  unfolding IsPlain
  one_given v due (bytes, found, short, reads) is unlike ends =
      plain_due held (Some c) due
      (subst (λ (x : Answer). IsPlain x.status) (sym is)
      (elim ends [ inl e ↦ subst IsPlain (sym e) tt | inr e ↦ subst IsPlain (sym e) tt ]))
      (OfFiles-map held (λ files. files file name ≡ Some bytes) (λ files. IsAnswered files (Some c) due)
      (λ files e. record {
        answer = is ∙ sym (over files ∙ ap (λ (f : Option (List ℕ)). over_file held file name cause reading f go_on) e
            ∙ given held file name cause reading v bytes short reads go_on);
        rests = rests files due unlike;
      })
      (having held (Some bytes) found))

  pub one_none : (due : Due) → GivesNone held file name cause reading due → IsDueOf held (Some c) due
  one_none due none = record {
    outcome = λ decided.
        let h = stopped held file name cause reading due none decided in
        OfFiles-map held (λ files. files file name ≡ h.0) (λ files. IsAnswered files (Some c) due)
        (λ files e. record {
          answer = h.2 go_on ∙ sym (over files ∙ ap (λ (f : Option (List ℕ)). over_file held file name cause reading f go_on) e);
          rests = rests files due (no_trace-if due (no_report held file name cause reading due none));
        })
        (having held h.0 h.1);
    read_fault = λ e.
        rw named (
          0,
          (file, name),
          omega arith,
          refl,
          record {
            line = fault_line held file name cause reading due none e;
            reached = some_files held (λ files. answer_of (without file files) c ≡ answer Absent (absent_line file)) missing;
          },
        );
    no_write = no_write held file name cause reading due none;
    nothing = is_nothing held file name cause reading due none;
  }

-- ---- a command over the files of a lens, a catalogue and a job
-- for want of memory
pub makes_nothing : (held : Option Files) (i : Inputs) → MakesNone held i Nothing
makes_nothing held i = record {
  outcome = λ decided. absurd decided;
  read_fault = λ e. absurd (cc e);
  no_report = λ e. cc;
  no_write = λ e. cc;
  nothing = λ e. refl;
}

module _ (held : Option Files) (i : Inputs) (c : Command) (text : Setup → Job → List ℕ)
    (over : (files : Contents) → answer_of files c ≡ on_inputs files i (λ s job. answer Done (text s job)))
    (named : files_of c ≡ inputs_named i) where
  pub setup_given : (s : Setup) (job : Job) (due : Due) → due_answer due ≡ answer Done (text s job)
      → ((files : Contents) → AreInputs files i s job → RestsOn files (Some c) due) → OfFiles held (λ files. MakesSetup files i s job)
      → IsDueOf held (Some c) due
  unfolding IsPlain
  setup_given s job due is rests made =
      plain_due held (Some c) due (subst (λ (x : Answer). IsPlain x.status) (sym is) tt)
      (OfFiles-map held (λ files. MakesSetup files i s job) (λ files. IsAnswered files (Some c) due)
      (λ files m. record {
        answer = is ∙ sym (over files ∙ m.answer (λ s job. answer Done (text s job)));
        rests = rests files m.inputs;
      })
      made)

  fault_of : (line : List ℕ) (f : FileKind × List ℕ) → IsInputFault held i f.0 line → IsFaultOf held c f.0 line
  fault_of line f h = record {
    line = h.line;
    reached = OfFiles-map held (λ files. (go_on : Setup → Job → Answer) → on_inputs (without f.0 files) i go_on ≡ answer Absent (absent_line f.0))
        (λ files. answer_of (without f.0 files) c ≡ answer Absent (absent_line f.0))
        (λ files k. over (without f.0 files) ∙ k (λ s job. answer Done (text s job))) h.reached;
  }

  pub setup_none : ((files : Contents) (due : Due) → (due_answer due).status ≢ Done → RestsOn files (Some c) due)
      → (due : Due) → MakesNone held i due → IsDueOf held (Some c) due
  setup_none rests due none = record {
    outcome = λ decided.
        OfFiles-map held (λ files. (go_on : Setup → Job → Answer) → due_answer due ≡ on_inputs files i go_on) (λ files. IsAnswered files (Some c) due)
        (λ files k. record {
          answer = k (λ s job. answer Done (text s job)) ∙ sym (over files);
          rests = rests files due none.no_report;
        })
        (none.outcome decided);
    read_fault = λ e. let a = none.read_fault e in rw named (a.0, a.1, a.2, a.3, fault_of (due_answer due).text a.1 a.4);
    no_write = none.no_write;
    nothing = none.nothing;
  }
