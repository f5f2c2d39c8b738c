-- What the files of a lens, a catalogue and a job make, from what the shelf gave of each.
use Rattle.std.proofs.Common.{◌≡◌, ◌≢◌, ◌⊎◌, ℕ, suc, ◌<◌, ◌≤◌, List, [], ◌∷◌, length, inl, inr, Option, Some, None, Result, Ok, Err, refl, sym, ap, subst, ◌∙◌, arith}
use Rattle.std.specs.Prelude.{Any, slice_index_or}
use Rattle.std.proofs.lemmas.Bool.{le-ltb}
use Rattle.lensio.specs.Held.{Files}
use Rattle.lensmodel.specs.Call.Answer.{Contents, Answer, answer, on_file, on_read, on_checked}
use Rattle.lensmodel.specs.Call.Inputs.{Inputs, AreInputs, HasBoxFile, image_of, inputs_named, box_named, on_lens, on_catalogue, on_job, on_box, on_inputs}
use Rattle.lensmodel.specs.Files.Catalogue.{catalogue}
use Rattle.lensmodel.specs.Files.Job.{job as job_in}
use Rattle.lensmodel.specs.Files.Joining.{joined}
use Rattle.lensmodel.specs.Files.Lens.{prescription}
use Rattle.lensmodel.specs.Files.LensFile.{LensFile}
use Rattle.lensmodel.specs.Files.Tolerances.{tolerance_box}
use Rattle.lensmodel.specs.Texts.FaultText.{zmx_cause, agf_cause, job_cause, tol_cause, absent_line, read_fault_line, too_long_line, refused_line, crossed_line}
use Rattle.lensmodel.specs.declared.fault.CrossFault.{CrossFault}
use Rattle.lensmodel.specs.declared.glass.Glass.{Glass}
use Rattle.lensmodel.specs.declared.job.Job.{Job}
use Rattle.lensmodel.specs.declared.setup.Setup.{Setup}
use Rattle.lensmodel.specs.declared.status.FileKind.{FileKind}
use Rattle.lensmodel.specs.declared.status.FileKind.TheVariants as kind
use Rattle.lensmodel.specs.declared.status.FileKind.TheVariants.{Zmx, Agf, Tol, Cert, Script}
use Rattle.lensmodel.specs.declared.status.Status.{Status}
use Rattle.lensmodel.specs.declared.status.Status.TheVariants.{Done, Usage, Refused, Absent, ReadFault, TooLong, WriteFault, Memory}
use Rattle.lensmodel.specs.declared.tolerance.TolBox.{TolBox}
use Rattle.lensrun.specs.Due.{due_answer}
use Rattle.lensrun.specs.Found.{IsFound, Stops, Gives, GivesNone, over_file}
use Rattle.lensrun.specs.Joined.{GivesBox, GivesNoBox, MakesSetup, MakesNone, IsInputFault}
use Rattle.lensrun.specs.Promise.{IsDecided, OfFiles, by_name, without}
use Rattle.lensrun.specs.declared.due.Due.{Due}
use Rattle.lensrun.specs.declared.due.Due.TheVariants.{Nothing}
use Rattle.lensrun.proofs.Outcomes.{OfFiles-map}
use Rattle.lensrun.proofs.Stopping.{look, look-found, given, stopped, no_report, no_write, is_nothing, fault_line}

-- ---- what each name of a trace has
-- the same contents by kind alone
contents : (z a j t : Option (List ℕ)) → Contents
contents z a j t Zmx name = z
contents z a j t Agf name = a
contents z a j t kind.Job name = j
contents z a j t Tol name = t
contents z a j t Cert name = None
contents z a j t Script name = None

FindsBox : Contents → Option (List ℕ) → Option (List ℕ) → Type 0
FindsBox files None t = Unit {0}
FindsBox files (Some name) t = files Tol name ≡ t

record Finds (files : Contents) (i : Inputs) (z a j t : Option (List ℕ)) : Type 0 where
  zmx : files Zmx i.zmx ≡ z
  agf : files Agf i.agf ≡ a
  job : files kind.Job i.job ≡ j
  tol : FindsBox files i.tol t

IsFoundBox : Option Files → Option (List ℕ) → Option (List ℕ) → Type 0
IsFoundBox held None t = Unit {0}
IsFoundBox held (Some name) t = IsFound held name t

finds-box : (files : Files) (name t : Option (List ℕ)) → IsFoundBox (Some files) name t → FindsBox (by_name files) name t
unfolding FindsBox IsFoundBox
finds-box files None t h = tt
finds-box files (Some name) t h = h

contents-box : (z a j t name : Option (List ℕ)) → FindsBox (contents z a j t) name t
unfolding FindsBox contents
contents-box z a j t None = tt
contents-box z a j t (Some name) = refl

-- files that have these
of_found : (held : Option Files) (i : Inputs) (z a j t : Option (List ℕ)) → IsFound held i.zmx z → IsFound held i.agf a → IsFound held i.job j
    → IsFoundBox held i.tol t → (P : Contents → Type 0) → ((files : Contents) → Finds files i z a j t → P files) → OfFiles held P
unfolding contents
of_found None i z a j t hz ha hj ht P f =
    (contents z a j t, f (contents z a j t) (record { zmx = refl; agf = refl; job = refl; tol = contents-box z a j t i.tol }))
of_found (Some files) i z a j t hz ha hj ht P f =
    f (by_name files) (record { zmx = hz; agf = ha; job = hj; tol = finds-box files i.tol t ht })

look-box : (held : Option Files) (name : Option (List ℕ)) → (t : Option (List ℕ)) × IsFoundBox held name t
unfolding IsFoundBox
look-box held None = (None, tt)
look-box held (Some name) = (look held name, look-found held name)

-- ---- what follows each file
after_box : LensFile → List Glass → Job → (Setup → Job → Answer) → Option TolBox → Answer
after_box read book job go_on box = on_checked (joined read.lens book job box) (λ s. go_on s job)

module _ (files : Contents) (i : Inputs) where
  after_job : LensFile → List Glass → (Setup → Job → Answer) → Job → Answer
  after_job read book go_on job = on_box files (image_of read.lens) i.tol (after_box read book job go_on)

  after_book : LensFile → (Setup → Job → Answer) → List Glass → Answer
  after_book read go_on book = on_job files i.job (after_job read book go_on)

  after_lens : (Setup → Job → Answer) → LensFile → Answer
  after_lens go_on read = on_catalogue files i.agf (after_book read go_on)

  module _ (z : Option (List ℕ)) (held : Option Files) (go_on : Setup → Job → Answer) (zmx : files Zmx i.zmx ≡ z) where
    at_lens : on_inputs files i go_on ≡ over_file held Zmx i.zmx zmx_cause prescription z (after_lens go_on)
    unfolding after_lens after_book after_job after_box
    at_lens = ap (λ (f : Option (List ℕ)). over_file held Zmx i.zmx zmx_cause prescription f (after_lens go_on)) zmx

    module _ (read : LensFile) (zb : List ℕ) (z_is : z ≡ Some zb) (z_short : length zb ≤ 16_777_216) (z_read : prescription zb ≡ Ok read)
        (a : Option (List ℕ)) (agf : files Agf i.agf ≡ a) where
      at_book : on_inputs files i go_on ≡ over_file held Agf i.agf agf_cause catalogue a (after_book read go_on)
      unfolding after_lens
      at_book =
          at_lens ∙ ap (λ (f : Option (List ℕ)). over_file held Zmx i.zmx zmx_cause prescription f (after_lens go_on)) z_is
          ∙ given held Zmx i.zmx zmx_cause prescription read zb z_short z_read (after_lens go_on)
          ∙ ap (λ (f : Option (List ℕ)). over_file held Agf i.agf agf_cause catalogue f (after_book read go_on)) agf

      module _ (book : List Glass) (ab : List ℕ) (a_is : a ≡ Some ab) (a_short : length ab ≤ 16_777_216) (a_read : catalogue ab ≡ Ok book)
          (j : Option (List ℕ)) (job_at : files kind.Job i.job ≡ j) where
        at_job : on_inputs files i go_on ≡ over_file held kind.Job i.job job_cause job_in j (after_job read book go_on)
        unfolding after_book
        at_job =
            at_book ∙ ap (λ (f : Option (List ℕ)). over_file held Agf i.agf agf_cause catalogue f (after_book read go_on)) a_is
            ∙ given held Agf i.agf agf_cause catalogue book ab a_short a_read (after_book read go_on)
            ∙ ap (λ (f : Option (List ℕ)). over_file held kind.Job i.job job_cause job_in f (after_job read book go_on)) job_at

        module _ (job : Job) (jb : List ℕ) (j_is : j ≡ Some jb) (j_short : length jb ≤ 16_777_216) (j_read : job_in jb ≡ Ok job) where
          at_box : on_inputs files i go_on ≡ on_box files (image_of read.lens) i.tol (after_box read book job go_on)
          unfolding after_job
          at_box =
              at_job ∙ ap (λ (f : Option (List ℕ)). over_file held kind.Job i.job job_cause job_in f (after_job read book go_on)) j_is
              ∙ given held kind.Job i.job job_cause job_in job jb j_short j_read (after_job read book go_on)

-- ---- a file that gives none
module _ {V F : Type 0} (held : Option Files) (i : Inputs) (file : FileKind) (name : List ℕ) (cause : F → List ℕ) (reading : List ℕ → Result V F) where
  -- the answers over files that have what was found come to this one
  ComesTo : Option (List ℕ) → Contents → Type 0
  ComesTo found files = (go_on : Setup → Job → Answer) → (next : V → Answer) × (on_inputs files i go_on ≡ over_file held file name cause reading found next)

  makes_none : (due : Due) → GivesNone held file name cause reading due
      → ((found : Option (List ℕ)) → IsFound held name found → OfFiles held (ComesTo found))
      → OfFiles held (λ files. (go_on : Setup → Job → Answer) → on_inputs (without file files) i go_on ≡ answer Absent (absent_line file))
      → ((text : List ℕ) → IsInputFault held i file text → Any (λ (f : FileKind × List ℕ). IsInputFault held i f.0 text) (inputs_named i))
      → MakesNone held i due
  unfolding ComesTo
  makes_none due none comes missing at = record {
    outcome = λ decided.
        let h = stopped held file name cause reading due none decided in
        OfFiles-map held (ComesTo h.0) (λ files. (go_on : Setup → Job → Answer) → due_answer due ≡ on_inputs files i go_on)
        (λ files r. λ go_on. h.2 (r go_on).0 ∙ sym (r go_on).1) (comes h.0 h.1);
    read_fault = λ is. at (due_answer due).text (record { line = fault_line held file name cause reading due none is; reached = missing });
    no_report = no_report held file name cause reading due none;
    no_write = no_write held file name cause reading due none;
    nothing = is_nothing held file name cause reading due none;
  }

module _ (held : Option Files) (i : Inputs) where
  -- some files
  some_files : (P : Contents → Type 0) → ((files : Contents) → P files) → OfFiles held P
  some_files P f =
      let t = look-box held i.tol in
      of_found held i (look held i.zmx) (look held i.agf) (look held i.job) t.0 (look-found held i.zmx) (look-found held i.agf) (look-found held i.job) t.1
      P (λ files h. f files)

  pub no_lens : (due : Due) → GivesNone held Zmx i.zmx zmx_cause prescription due → MakesNone held i due
  unfolding ComesTo
  no_lens due none =
      makes_none held i Zmx i.zmx zmx_cause prescription due none
      (λ z hz.
      let t = look-box held i.tol in
      of_found held i z (look held i.agf) (look held i.job) t.0 hz (look-found held i.agf) (look-found held i.job) t.1
      (ComesTo held i Zmx i.zmx zmx_cause prescription z)
      (λ files h. λ go_on. (after_lens files i go_on, at_lens files i z held go_on h.zmx)))
      (some_files (λ files. (go_on : Setup → Job → Answer) → on_inputs (without Zmx files) i go_on ≡ answer Absent (absent_line Zmx)) (λ files go_on. refl))
      (λ text h. (0, (Zmx, i.zmx), omega arith, refl, h))

  module _ (read : LensFile) (lens : Gives held Zmx i.zmx zmx_cause prescription read) where
    pub no_book : (due : Due) → GivesNone held Agf i.agf agf_cause catalogue due → MakesNone held i due
    unfolding ComesTo
    no_book due none =
        let t = look-box held i.tol in
        makes_none held i Agf i.agf agf_cause catalogue due none
        (λ a ha.
        of_found held i (Some lens.0) a (look held i.job) t.0 lens.1 ha (look-found held i.job) t.1
        (ComesTo held i Agf i.agf agf_cause catalogue a)
        (λ files h. λ go_on. (after_book files i read go_on, at_book files i (Some lens.0) held go_on h.zmx read lens.0 refl lens.2 lens.3 a h.agf)))
        (of_found held i (Some lens.0) (look held i.agf) (look held i.job) t.0 lens.1 (look-found held i.agf) (look-found held i.job) t.1
        (λ files. (go_on : Setup → Job → Answer) → on_inputs (without Agf files) i go_on ≡ answer Absent (absent_line Agf))
        (λ files h go_on. at_book (without Agf files) i (Some lens.0) held go_on h.zmx read lens.0 refl lens.2 lens.3 None refl))
        (λ text h. (1, (Agf, i.agf), omega arith, refl, h))

    module _ (book : List Glass) (glasses : Gives held Agf i.agf agf_cause catalogue book) where
      pub no_job : (due : Due) → GivesNone held kind.Job i.job job_cause job_in due → MakesNone held i due
      unfolding ComesTo
      no_job due none =
          let t = look-box held i.tol in
          makes_none held i kind.Job i.job job_cause job_in due none
          (λ j hj.
          of_found held i (Some lens.0) (Some glasses.0) j t.0 lens.1 glasses.1 hj t.1
          (ComesTo held i kind.Job i.job job_cause job_in j)
          (λ files h. λ go_on. (
            after_job files i read book go_on,
            at_job files i (Some lens.0) held go_on h.zmx read lens.0 refl lens.2 lens.3 (Some glasses.0) h.agf
                book glasses.0 refl glasses.2 glasses.3 j h.job,
          )))
          (of_found held i (Some lens.0) (Some glasses.0) (look held i.job) t.0 lens.1 glasses.1 (look-found held i.job) t.1
          (λ files. (go_on : Setup → Job → Answer) → on_inputs (without kind.Job files) i go_on ≡ answer Absent (absent_line kind.Job))
          (λ files h go_on. at_job (without kind.Job files) i (Some lens.0) held go_on h.zmx read lens.0 refl lens.2 lens.3 (Some glasses.0) h.agf
          book glasses.0 refl glasses.2 glasses.3 None refl))
          (λ text h. (2, (kind.Job, i.job), omega arith, refl, h))

      module _ (job : Job) (asked : Gives held kind.Job i.job job_cause job_in job) where
        -- the answer comes to the box
        comes_to_box : (files : Contents) (t : Option (List ℕ)) → Finds files i (Some lens.0) (Some glasses.0) (Some asked.0) t → (go_on : Setup → Job → Answer)
            → on_inputs files i go_on ≡ on_box files (image_of read.lens) i.tol (after_box read book job go_on)
        comes_to_box files t h go_on =
            at_box files i (Some lens.0) held go_on h.zmx read lens.0 refl lens.2 lens.3 (Some glasses.0) h.agf
            book glasses.0 refl glasses.2 glasses.3 (Some asked.0) h.job job asked.0 refl asked.2 asked.3

        image : ℕ
        image = image_of read.lens

        box-at : (files : Contents) (name : List ℕ) (t : Option (List ℕ)) (go_on : Option TolBox → Answer) → files Tol name ≡ t
            → on_box files image (Some name) go_on ≡ over_file held Tol name tol_cause (λ bytes. tolerance_box bytes image) t (λ box. go_on (Some box))
        box-at files name t go_on e = ap (λ (f : Option (List ℕ)). over_file held Tol name tol_cause (λ bytes. tolerance_box bytes image) f (λ box. go_on (Some box))) e

        -- the box stands behind the other files
        behind : (tol : Option (List ℕ)) (name : List ℕ) → tol ≡ Some name → (k : ℕ) × (k < length (box_named tol)) × (slice_index_or (box_named tol) k (Tol, name) ≡ (Tol, name))
        behind None name e = absurd (cc e)
        behind (Some n) name e = (0, omega arith, ap (λ m. (Tol, m)) (cc e))

        any_box : (name : List ℕ) → i.tol ≡ Some name → (text : List ℕ) → IsInputFault held i Tol text
            → Any (λ (f : FileKind × List ℕ). IsInputFault held i f.0 text) (inputs_named i)
        any_box name e text h = let b = behind i.tol name e in (suc (suc (suc b.0)), (Tol, name), omega (arith, b.1), b.2, h)

        -- a box that isn't there
        no_box_by : (tol : Option (List ℕ)) → i.tol ≡ tol → (due : Due) → GivesNoBox held image tol due → MakesNone held i due
        unfolding image ComesTo IsFoundBox FindsBox
        no_box_by None e due none = absurd none
        no_box_by (Some name) e due none =
            makes_none held i Tol name tol_cause (λ bytes. tolerance_box bytes (image_of read.lens)) due none
            (λ t ht.
            of_found held i (Some lens.0) (Some glasses.0) (Some asked.0) t lens.1 glasses.1 asked.1 (subst (λ n. IsFoundBox held n t) (sym e) ht)
            (ComesTo held i Tol name tol_cause (λ bytes. tolerance_box bytes (image_of read.lens)) t)
            (λ files h. λ go_on. (
              λ box. after_box read book job go_on (Some box),
              comes_to_box files t h go_on ∙ ap (λ n. on_box files (image_of read.lens) n (after_box read book job go_on)) e
                  ∙ box-at files name t (after_box read book job go_on) (subst (λ n. FindsBox files n t) e h.tol),
            )))
            (of_found held i (Some lens.0) (Some glasses.0) (Some asked.0) (look held name) lens.1 glasses.1 asked.1
            (subst (λ n. IsFoundBox held n (look held name)) (sym e) (look-found held name))
            (λ files. (go_on : Setup → Job → Answer) → on_inputs (without Tol files) i go_on ≡ answer Absent (absent_line Tol))
            (λ files h go_on.
            at_box (without Tol files) i (Some lens.0) held go_on h.zmx read lens.0 refl lens.2 lens.3 (Some glasses.0) h.agf
            book glasses.0 refl glasses.2 glasses.3 (Some asked.0) h.job job asked.0 refl asked.2 asked.3
            ∙ ap (λ n. on_box (without Tol files) (image_of read.lens) n (after_box read book job go_on)) e))
            (λ text h. any_box name e text h)

        pub no_box : (due : Due) → GivesNoBox held (image_of read.lens) i.tol due → MakesNone held i due
        unfolding image
        no_box due none = no_box_by i.tol refl due none

        -- a box that is there, or isn't named
        record HasBox (tol : Option (List ℕ)) (toler : Option TolBox) : Type 0 where
          has : Option (List ℕ)
          found : IsFoundBox held tol has
          goes_on : (files : Contents) → FindsBox files tol has → (go_on : Option TolBox → Answer) → on_box files (image_of read.lens) tol go_on ≡ go_on toler
          file : (files : Contents) → FindsBox files tol has → HasBoxFile files (image_of read.lens) tol toler

        has_box : (tol : Option (List ℕ)) (toler : Option TolBox) → GivesBox held (image_of read.lens) tol toler → HasBox tol toler
        unfolding IsFoundBox FindsBox image
        has_box None toler is = record {
          has = None;
          found = tt;
          goes_on = λ files f go_on. ap go_on (sym is);
          file = λ files f. is;
        }
        has_box (Some name) toler (box, is, (bytes, found, short, reads)) = record {
          has = Some bytes;
          found = found;
          goes_on = λ files f go_on.
              box-at files name (Some bytes) go_on f
              ∙ given held Tol name tol_cause (λ bytes. tolerance_box bytes (image_of read.lens)) box bytes short reads (λ b. go_on (Some b))
              ∙ ap go_on (sym is);
          file = λ files f. subst (HasBoxFile files (image_of read.lens) (Some name)) (sym is) (bytes, f, reads);
        }

        module _ (toler : Option TolBox) (box : GivesBox held (image_of read.lens) i.tol toler) where
          b : HasBox i.tol toler
          b = has_box i.tol toler box

          -- the answer comes to the checks that join them
          comes_to_checks : (files : Contents) → Finds files i (Some lens.0) (Some glasses.0) (Some asked.0) b.has → (go_on : Setup → Job → Answer)
              → on_inputs files i go_on ≡ on_checked (joined read.lens book job toler) (λ s. go_on s job)
          unfolding after_box
          comes_to_checks files h go_on = comes_to_box files b.has h go_on ∙ b.goes_on files h.tol (after_box read book job go_on)

          pub makes : (s : Setup) → joined read.lens book job toler ≡ Ok s → OfFiles held (λ files. MakesSetup files i s job)
          makes s is =
              of_found held i (Some lens.0) (Some glasses.0) (Some asked.0) b.has lens.1 glasses.1 asked.1 b.found
              (λ files. MakesSetup files i s job)
              (λ files h. record {
                inputs = record {
                  zmx_bytes = lens.0;
                  agf_bytes = glasses.0;
                  job_bytes = asked.0;
                  file = read;
                  book = book;
                  box = toler;
                  zmx = h.zmx;
                  agf = h.agf;
                  job_held = h.job;
                  lens_read = lens.3;
                  book_read = glasses.3;
                  job_read = asked.3;
                  box_read = b.file files h.tol;
                  setup = is;
                };
                answer = λ go_on. comes_to_checks files h go_on ∙ ap (λ r. on_checked r (λ s. go_on s job)) is;
              })

          pub crosses : (fault : CrossFault) (due : Due) → joined read.lens book job toler ≡ Err fault → due_answer due ≡ answer Refused (crossed_line fault)
              → MakesNone held i due
          crosses fault due is refused = record {
            outcome = λ decided.
                of_found held i (Some lens.0) (Some glasses.0) (Some asked.0) b.has lens.1 glasses.1 asked.1 b.found
                (λ files. (go_on : Setup → Job → Answer) → due_answer due ≡ on_inputs files i go_on)
                (λ files h go_on. refused ∙ sym (comes_to_checks files h go_on ∙ ap (λ r. on_checked r (λ s. go_on s job)) is));
            read_fault = λ e. absurd (cc (sym e ∙ ap (λ (x : Answer). x.status) refused));
            no_report = λ e. cc (sym e ∙ ap (λ (x : Answer). x.status) refused);
            no_write = λ e. cc (sym e ∙ ap (λ (x : Answer). x.status) refused);
            nothing = λ e. absurd (cc (sym e ∙ ap (λ (x : Answer). x.status) refused));
          }
